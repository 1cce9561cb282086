pub mod Metadata
pub mod Show
pub mod Line
