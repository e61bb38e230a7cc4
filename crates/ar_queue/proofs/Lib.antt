pub mod Sums
pub mod Items
pub mod Steps
pub mod Feeding
pub mod Working
pub mod Sharing
