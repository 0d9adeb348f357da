pub mod Checks
pub mod Shape
pub mod Geometry
pub mod Totals
pub mod Accepted
pub mod View
pub mod Described
pub mod Sound
