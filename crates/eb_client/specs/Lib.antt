pub mod Place
pub mod ClientWords
pub mod ClientLines
pub mod PlainLink
pub mod Asking
pub mod Listed
pub mod Tasks
pub mod RanClient
