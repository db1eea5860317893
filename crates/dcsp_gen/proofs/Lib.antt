pub mod Ranges
pub mod Drawn
pub mod Selecting
pub mod Choosing
