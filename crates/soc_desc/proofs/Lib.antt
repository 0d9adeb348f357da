pub mod Digits
pub mod Each
pub mod Inner
pub mod Placing
pub mod Rules
pub mod Sound
pub mod Seen
pub mod Wider
