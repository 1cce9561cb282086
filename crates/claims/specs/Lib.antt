pub mod Calls
pub mod Demand
