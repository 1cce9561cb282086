pub mod Step
pub mod Spare
pub mod Book
