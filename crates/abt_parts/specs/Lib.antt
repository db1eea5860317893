pub mod Messages
pub mod Views
pub mod Stores
pub mod Places
pub mod Index
pub mod Outgoing
pub mod Checked
pub mod Values
