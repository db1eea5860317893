pub mod Atoms
pub mod Clauses
pub mod Texts
pub mod Limits
pub mod ExportPromise
pub mod Exporting
pub mod Pairs
