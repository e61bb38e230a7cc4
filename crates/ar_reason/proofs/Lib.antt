pub mod Events
pub mod Metrics
pub mod Objects
pub mod Reading
pub mod Runs
pub mod Shown
pub mod Trees
