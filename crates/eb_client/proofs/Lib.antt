pub mod NumberLemmas
pub mod PlaceLemmas
pub mod TaskLemmas
pub mod AskingLemmas
pub mod ShownLemmas
pub mod ListedLemmas
pub mod ClientStatusLemmas
pub mod RanClientLemmas
