pub mod ReadBack
pub mod Texts
pub mod Looks
pub mod Meant
