pub mod Fabric
pub mod Core
pub mod Sound
pub mod Events
pub mod Stakes
pub mod Laws
pub mod Built
pub mod Run
