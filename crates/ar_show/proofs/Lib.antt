pub mod Shortened
pub mod Joined
pub mod TypedViews
pub mod Sizes
