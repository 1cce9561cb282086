pub mod Cells
pub mod Machine
pub mod Holds
