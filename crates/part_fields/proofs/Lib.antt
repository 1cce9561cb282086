pub mod Answers
pub mod Shown
pub mod Linked
