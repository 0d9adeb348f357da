pub mod Capture
pub mod Digits
pub mod Ends
pub mod Ports
pub mod Replay
pub mod Lanes
pub mod Prepared
pub mod Text
