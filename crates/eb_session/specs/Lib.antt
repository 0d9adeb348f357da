pub mod Operations
pub mod Cycles
pub mod Configuration
pub mod Replies
pub mod Keeping
pub mod Course
pub mod Inside
pub mod Short
