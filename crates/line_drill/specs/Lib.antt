pub mod Drills
pub mod Outcomes
pub mod DrillPromise
