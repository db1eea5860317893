pub mod Adds
mod Blocks
pub mod LinkLaws
mod Openings
pub mod Ranks
mod Rows
mod Tables
mod Shorter
pub mod Takes
pub mod Walks
