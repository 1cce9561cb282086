pub mod Scenes
pub mod Linked
