pub mod Loops
pub mod Linked
