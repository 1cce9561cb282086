pub mod Position
pub mod Covering
