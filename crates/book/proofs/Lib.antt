pub mod Steps
pub mod Shapes
pub mod Settled
pub mod Book
pub mod Calls
