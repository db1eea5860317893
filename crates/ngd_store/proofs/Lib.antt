pub mod Below
pub mod Growing
pub mod Rooms
pub mod Words
