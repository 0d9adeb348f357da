pub mod StakeLemmas
pub mod TurnLemmas
pub mod RecordLemmas
pub mod PassLemmas
