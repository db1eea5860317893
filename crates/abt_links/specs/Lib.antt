pub mod Blocks
pub mod Chains
pub mod Marks
pub mod PairTables
pub mod Transit
pub mod Whole
pub mod OpenPairs
