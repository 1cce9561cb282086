pub mod Packet
pub mod Shortest
