pub mod Lawful
pub mod Runs
pub mod Files
