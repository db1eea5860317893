pub mod Citing
pub mod Entries
pub mod Findings
pub mod Places
pub mod Progress
pub mod Tables
pub mod Logged
