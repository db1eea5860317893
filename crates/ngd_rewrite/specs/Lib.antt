pub mod Needed
pub mod Cores
pub mod Marks
pub mod Upgrade
pub mod Endings
