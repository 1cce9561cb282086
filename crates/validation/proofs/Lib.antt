pub mod Asked
pub mod Answers
pub mod Lists
pub mod Refusals
pub mod Linked
