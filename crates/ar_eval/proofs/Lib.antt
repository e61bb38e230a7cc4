pub mod Judging
pub mod Facts
