pub mod ParentWriter
