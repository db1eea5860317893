pub mod StoryPromise
pub mod Telling
pub mod Stories
