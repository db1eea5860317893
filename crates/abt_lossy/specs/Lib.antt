pub mod Carries
pub mod AtWorld
pub mod InWorld
pub mod Kept
