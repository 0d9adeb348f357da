mod Examples
pub mod ListLemmas
pub mod ConfigurationLemmas
pub mod CourseLemmas
pub mod ReplyLemmas
pub mod WidthLemmas
pub mod FeedLemmas
pub mod ShortLemmas
pub mod ShortRan
pub mod EndLemmas
