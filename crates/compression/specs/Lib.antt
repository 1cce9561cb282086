pub mod Compression
