pub mod Width
pub mod Field
pub mod Lanes
pub mod Name
