pub mod NetLemmas
pub mod PostLemmas
