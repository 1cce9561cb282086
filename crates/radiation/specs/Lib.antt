pub mod Radiation
