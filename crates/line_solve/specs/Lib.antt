pub mod Searching
pub mod BestAnswers
pub mod SearchScripts
pub mod SolvePromise
pub mod BestHeadline
pub mod Runners
pub mod Asking
