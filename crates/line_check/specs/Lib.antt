pub mod Taking
pub mod Checks
pub mod LogChecks
pub mod CheckReports
pub mod Verifying
