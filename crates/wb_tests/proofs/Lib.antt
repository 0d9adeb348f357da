pub mod Quiets
pub mod Shareds
