pub mod Viewed
pub mod Walked
pub mod Faults
pub mod Paths
pub mod Sizes
pub mod Steps
pub mod Signs
