pub mod Lzw
