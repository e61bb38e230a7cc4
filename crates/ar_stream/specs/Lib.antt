pub mod Passing
pub mod Error
pub mod Head
pub mod Picked
pub mod Private
