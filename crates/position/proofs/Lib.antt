pub mod Formed
pub mod Linked
