pub mod Trace
pub mod Parts
pub mod Operands
pub mod Lines
pub mod Sources
pub mod Views
pub mod Private
