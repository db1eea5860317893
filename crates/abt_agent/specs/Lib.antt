pub mod Turns
pub mod States
pub mod Bodies
pub mod Causes
pub mod Asks
pub mod Rights
pub mod Examined
