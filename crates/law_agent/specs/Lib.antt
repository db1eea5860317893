pub mod Invariants
pub mod OneAgent
pub mod Staying
pub mod StepsRight
pub mod Merges
pub mod Sources
pub mod OneAgentSteps
pub mod Stores
