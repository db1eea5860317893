pub mod Answers
pub mod Schedules
