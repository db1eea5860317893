pub mod Lawful
pub mod Agents
pub mod Files
pub mod Replaying
