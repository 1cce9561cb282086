pub mod Speakers
