pub mod Private
pub mod Each
pub mod Templates
pub mod Misfits
pub mod Measurements
