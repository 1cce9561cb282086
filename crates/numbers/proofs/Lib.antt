pub mod Lengths
pub mod Distinct
pub mod Same
pub mod Linked
