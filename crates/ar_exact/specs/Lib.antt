pub mod Exact
pub mod Flat
pub mod Private
