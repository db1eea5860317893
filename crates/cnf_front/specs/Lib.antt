pub mod Clauses
pub mod Dimacs
pub mod Formulas
