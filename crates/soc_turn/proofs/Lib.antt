pub mod SeatLemmas
pub mod StepLemmas
pub mod RoleLemmas
pub mod CloseLemmas
