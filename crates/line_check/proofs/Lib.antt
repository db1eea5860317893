pub mod Taking
pub mod Found
pub mod Taken
pub mod Checks
pub mod Lawful
pub mod Verifying
