pub mod Bits
pub mod Writer
