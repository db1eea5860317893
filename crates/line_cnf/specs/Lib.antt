pub mod Satisfying
pub mod RupPromise
pub mod CnfRuns
pub mod ClauseRows
pub mod ClauseRuns
pub mod CnfOutcomes
pub mod CnfPromise
pub mod CnfHeadline
