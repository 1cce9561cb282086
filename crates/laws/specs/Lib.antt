pub mod Tiles
pub mod Stays
pub mod Positions
pub mod Names
pub mod Named
