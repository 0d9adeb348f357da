pub mod View
pub mod Clocked
pub mod Tree
pub mod Local
pub mod Ledger
pub mod Look
pub mod Alone
