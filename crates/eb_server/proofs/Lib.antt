pub mod PieceLemmas
pub mod ServingLemmas
pub mod HistoryLemmas
pub mod EndingLemmas
