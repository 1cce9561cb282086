pub mod Questions
pub mod Call
