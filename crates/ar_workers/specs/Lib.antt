pub mod Joined
pub mod Private
