pub mod Serves
pub mod Seats
pub mod Readied
pub mod Text
pub mod Unclean
pub mod Datagrams
pub mod Alone
pub mod DatagramText
