pub mod Tables
pub mod Sound
pub mod Whole
pub mod Buses
pub mod Laws
