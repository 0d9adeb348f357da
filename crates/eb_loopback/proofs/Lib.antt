pub mod BitLemmas
pub mod AskingLemmas
pub mod JoinedLemmas
pub mod OneReplyLemmas
pub mod ClosingLemmas
pub mod ReplyingLemmas
pub mod SpellingLemmas
pub mod OpeningLemmas
