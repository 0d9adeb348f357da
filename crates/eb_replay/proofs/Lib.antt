pub mod ShortLemmas
pub mod CaptureLemmas
pub mod LaneLemmas
pub mod DigitLemmas
pub mod TextLemmas
