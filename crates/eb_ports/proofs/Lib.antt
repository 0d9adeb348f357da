pub mod DatagramLemmas
pub mod ConnectionLemmas
