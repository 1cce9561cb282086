pub mod Finite
pub mod Linked
