pub mod OutcomeLine
