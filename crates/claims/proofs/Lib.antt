pub mod Calls
pub mod Any
pub mod Demand
pub mod Worked
