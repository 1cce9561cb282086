pub mod Codes
pub mod Turns
pub mod Asked
pub mod Written
