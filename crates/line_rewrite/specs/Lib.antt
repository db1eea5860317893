pub mod OldLogs
pub mod UpgradePromise
pub mod Upgrading
pub mod CorePromise
pub mod Trimming
