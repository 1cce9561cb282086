pub mod NameAnswer
