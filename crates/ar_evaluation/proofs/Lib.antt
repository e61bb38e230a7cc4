pub mod Lists
pub mod Judges
pub mod Objects
