pub mod Lawful
pub mod Telling
pub mod Texts
pub mod Trials
pub mod Generated
pub mod Ends
