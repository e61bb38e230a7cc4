pub mod Objects
pub mod Parts
