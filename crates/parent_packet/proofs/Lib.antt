pub mod Bits
pub mod Fewest
pub mod Takes
pub mod Given
pub mod Shortest
