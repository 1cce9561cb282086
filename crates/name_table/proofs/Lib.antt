pub mod Wide
pub mod Linked
