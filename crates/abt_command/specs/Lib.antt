pub mod Meanings
pub mod Lines
pub mod LinePromises
pub mod AskedRuns
pub mod AskedSearches
pub mod AskedLosses
pub mod Drilled
