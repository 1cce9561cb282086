pub mod Kind
pub mod Tables
