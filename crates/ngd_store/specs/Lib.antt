pub mod Rests
pub mod Rooms
