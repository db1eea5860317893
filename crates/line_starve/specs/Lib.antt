pub mod StarvePromise
pub mod Starving
pub mod Runs
