pub mod PartialBounds
pub mod BoundReports
pub mod Generated
pub mod OrderPromise
pub mod OrderHeld
