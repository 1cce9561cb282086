pub mod Characters
pub mod Linked
