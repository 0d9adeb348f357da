pub mod Ends
pub mod Datagrams
pub mod DatagramRooms
pub mod Connections
