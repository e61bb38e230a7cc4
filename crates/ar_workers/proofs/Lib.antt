pub mod Named
pub mod Ending
pub mod Judged
pub mod Lost
pub mod Sharing
