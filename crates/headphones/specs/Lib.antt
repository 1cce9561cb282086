pub mod Headphones
