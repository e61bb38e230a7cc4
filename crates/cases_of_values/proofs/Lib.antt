pub mod Values
pub mod Joined
pub mod Escapes
pub mod Lines
pub mod Given
