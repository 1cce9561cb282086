pub mod Sent
pub mod Scene
pub mod Update
pub mod Answer
