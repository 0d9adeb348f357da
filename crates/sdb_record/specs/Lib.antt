pub mod Text
pub mod Layout
pub mod Relation
pub mod Faults
pub mod Decoding
