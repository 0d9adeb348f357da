pub mod State
pub mod Limits
pub mod Kind
pub mod Line
pub mod Standing
