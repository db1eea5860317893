pub mod BitLaws
pub mod Domains
pub mod RowLaws
pub mod LineLaws
pub mod WordLaws
pub mod WalkLaws
pub mod CutLaws
mod FitLaws
mod EasyLaws
mod ClosedLaws
mod SpanLaws
