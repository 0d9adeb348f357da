pub mod Journal
pub mod Growth
pub mod Ledger
pub mod Text
