pub mod Pairs
pub mod MessageBounds
pub mod Bounds
pub mod Lawful
pub mod Ordered
