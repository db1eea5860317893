pub mod Quotients
pub mod Divided
pub mod KindNames
pub mod Steps
pub mod TableLaws
