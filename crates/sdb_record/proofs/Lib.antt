pub mod TextLemmas
pub mod FaultLemmas
pub mod ReadLemmas
pub mod WriteLemmas
