pub mod Sound
pub mod Linked
