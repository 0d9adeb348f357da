pub mod Seen
pub mod Records
pub mod Roms
pub mod TreeWalk
pub mod TableReads
pub mod TheLaw
