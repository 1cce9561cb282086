pub mod Metadata
pub mod Entry
