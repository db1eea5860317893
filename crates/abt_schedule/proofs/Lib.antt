pub mod Answered
pub mod FirstBad
pub mod ScheduleLaws
pub mod ScheduleLines
