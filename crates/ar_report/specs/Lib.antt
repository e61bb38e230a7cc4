pub mod Private
pub mod Check
