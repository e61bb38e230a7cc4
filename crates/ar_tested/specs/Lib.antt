pub mod Run
pub mod Private
