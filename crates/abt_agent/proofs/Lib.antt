pub mod Rising
pub mod Causes
mod Blamed
mod Others
pub mod Fits
mod Fitting
pub mod GivesUp
pub mod Takes
pub mod Learns
pub mod Receives
pub mod Fresh
pub mod Proper
pub mod Against
pub mod Asks
mod Gathered
pub mod Rights
pub mod Acting
pub mod Tracks
pub mod Examining
