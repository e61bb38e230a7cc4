pub mod Buffers
pub mod Library
