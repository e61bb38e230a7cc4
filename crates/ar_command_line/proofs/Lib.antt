mod Reading
pub mod Bounds
pub mod Building
pub mod Facts
pub mod Faults
pub mod Parsing
pub mod Histories
pub mod Retries
pub mod Writing
