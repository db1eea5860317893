pub mod Lawful
pub mod NumberLaws
pub mod Growing
pub mod LearnedLines
pub mod Placed
pub mod SurveyLaws
