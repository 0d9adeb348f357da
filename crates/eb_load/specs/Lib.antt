pub mod Draws
pub mod Stream
pub mod LoadSource
pub mod Summary
pub mod Filling
