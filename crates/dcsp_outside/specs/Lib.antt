pub mod Outside
pub mod Memory
pub mod Handed
pub mod Handing
