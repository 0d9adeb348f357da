pub mod ListLemmas
pub mod HeardLemmas
pub mod SpelledLemmas
pub mod AnsweredLemmas
pub mod CauseLemmas
pub mod TourLemmas
pub mod PortLemmas
