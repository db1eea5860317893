pub mod Standing
pub mod Bodies
pub mod Passing
pub mod Rooms
pub mod Settling
