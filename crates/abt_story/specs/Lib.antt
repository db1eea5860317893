pub mod Texts
pub mod Words
pub mod Looking
pub mod Facts
pub mod Numbers
pub mod Telling
pub mod Retelling
pub mod Differing
