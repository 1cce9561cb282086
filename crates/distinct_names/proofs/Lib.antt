pub mod Forms
pub mod Distinct
pub mod Examples
