pub mod Rank
pub mod KnownRanks
