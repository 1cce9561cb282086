pub mod Kept
pub mod Texts
pub mod Demand
pub mod Packets
