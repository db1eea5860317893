pub mod Endings
