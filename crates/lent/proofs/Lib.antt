pub mod Answers
pub mod Linked
