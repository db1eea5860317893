pub mod Asked
pub mod LossyPromise
pub mod Runners
pub mod Meaning
pub mod Asking
