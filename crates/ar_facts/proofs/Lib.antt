pub mod Lines
pub mod Objects
pub mod Replaying
pub mod Runs
pub mod States
