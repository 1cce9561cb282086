pub mod Hrtf
