mod TodoLemmas
mod WatchedLemmas
mod MayLemmas
mod Preparing
mod UnderWay
pub mod LineLaws
