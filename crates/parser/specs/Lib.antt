pub mod Met
pub mod Each
pub mod Widths
pub mod Begun
