pub mod Digits
pub mod Words
pub mod Script
pub mod Reading
pub mod Laws
pub mod Spelling
pub mod Cycles
