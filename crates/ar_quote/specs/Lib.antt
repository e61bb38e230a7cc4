pub mod Private
pub mod Shown
pub mod Tokens
pub mod Quote
