pub mod Rising
pub mod SetLaws
pub mod RangeLaws
pub mod Searches
pub mod Domains
pub mod Parts
