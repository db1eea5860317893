pub mod FormulaLaws
pub mod WordLaws
pub mod HeaderLaws
pub mod ClauseLaws
