pub mod Texts
pub mod Command
pub mod Lines
pub mod Build
pub mod Listing
