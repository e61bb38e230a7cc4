pub mod Differences
