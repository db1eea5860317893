pub mod Rows
pub mod Saying
pub mod Values
pub mod Texts
