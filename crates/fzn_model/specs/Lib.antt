pub mod Building
pub mod Declarations
pub mod Items
pub mod Models
pub mod Reading
pub mod Laws
