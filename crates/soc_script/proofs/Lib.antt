pub mod DigitLemmas
pub mod PieceLemmas
pub mod ListLemmas
pub mod LineLemmas
mod Examples
pub mod RefusalLemmas
pub mod TakenLemmas
pub mod SpellingLemmas
