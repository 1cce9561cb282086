pub mod Positions
pub mod Room
pub mod Linked
