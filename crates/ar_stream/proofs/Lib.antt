mod Turns
pub mod Kept
pub mod Taken
pub mod Whole
mod Picking
