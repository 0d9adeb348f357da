pub mod GivingLemmas
pub mod PieceLemmas
pub mod DrawLemmas
pub mod SpellingLemmas
pub mod SummaryLemmas
pub mod FillLemmas
