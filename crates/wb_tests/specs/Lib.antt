pub mod Quiet
pub mod Shared
