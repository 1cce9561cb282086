pub mod Room
pub mod Linked
