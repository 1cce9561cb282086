pub mod Show
pub mod Listing
