pub mod ServingWords
pub mod ServingLines
pub mod Doors
pub mod Posts
pub mod ServingRuns
pub mod Deciding
pub mod Quiet
pub mod RanServing
