pub mod Failures
pub mod Operand
