pub mod Shape
pub mod Position
pub mod Formed
