pub mod SeatLemmas
pub mod LineLemmas
pub mod UncleanLemmas
pub mod AloneLemmas
