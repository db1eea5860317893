pub mod Narrowing
pub mod Ranks
pub mod RoundLists
pub mod Fewer
pub mod SearchLaws
pub mod Improving
