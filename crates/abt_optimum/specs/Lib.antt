pub mod Best
pub mod Halves
pub mod Rounds
pub mod Searches
pub mod Outcomes
pub mod Kept
