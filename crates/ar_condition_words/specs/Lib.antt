pub mod Operands
pub mod Hints
pub mod Conditions
