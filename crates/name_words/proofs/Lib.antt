pub mod Lengths
pub mod Linked
