pub mod Limits
pub mod Outputs
pub mod WellFormed
pub mod Index
pub mod Owners
pub mod Lower
pub mod Pieces
