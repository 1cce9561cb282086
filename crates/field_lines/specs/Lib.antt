pub mod FieldLine
