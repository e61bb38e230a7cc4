pub mod ReadBack
pub mod Shown
