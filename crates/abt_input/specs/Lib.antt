pub mod ModelTexts
pub mod Inputs
pub mod ClausesErrors
pub mod OrderErrors
pub mod Errors
pub mod Kinds
pub mod Files
pub mod Plans
