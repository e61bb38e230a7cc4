pub mod Room
pub mod Flatness
