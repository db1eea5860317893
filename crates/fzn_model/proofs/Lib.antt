pub mod First
pub mod Counts
pub mod Once
pub mod Sound
pub mod Turns
mod Ranges
