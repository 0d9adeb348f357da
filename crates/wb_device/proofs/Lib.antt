pub mod MergedLemmas
pub mod Lines
pub mod TakenLemmas
