pub mod Run
pub mod Operand
pub mod Kinded
pub mod Memory
pub mod Same
pub mod Filter
pub mod Private
