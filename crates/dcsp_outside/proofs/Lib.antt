mod Tables
pub mod Changes
