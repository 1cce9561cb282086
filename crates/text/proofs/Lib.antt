pub mod Decimal
pub mod Puts
pub mod Rows
pub mod Slices
pub mod Lines
pub mod Writes
pub mod Linked
