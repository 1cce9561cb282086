pub mod Linked
pub mod Demand
pub mod Printed
