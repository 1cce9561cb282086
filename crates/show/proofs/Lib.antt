pub mod Texts
pub mod Room
pub mod Linked
