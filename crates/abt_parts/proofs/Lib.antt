mod Slots
pub mod Counts
pub mod Fitting
pub mod IndexLaws
pub mod NamingLaws
pub mod PlaceLaws
pub mod PlacedLaws
pub mod TakenLaws
pub mod Lists
pub mod Members
pub mod Posting
pub mod Insertion
pub mod ValueLaws
