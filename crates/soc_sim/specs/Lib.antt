pub mod Watched
pub mod Todos
pub mod Steps
pub mod Laws
