pub mod Joined
pub mod Loopback
