mod NameTable
mod SameNames
mod VariableLaws
mod Steps
pub mod KnownLaws
pub mod ShapeLaws
pub mod PlacesInOrder
pub mod Declaring
pub mod LentSteps
