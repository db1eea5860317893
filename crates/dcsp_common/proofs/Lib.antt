pub mod EntryNumbers
pub mod Chosen
pub mod Decimals
pub mod Items
mod WordLaws
