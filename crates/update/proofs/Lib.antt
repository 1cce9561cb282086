pub mod Questions
pub mod Linked
