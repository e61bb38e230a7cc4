pub mod Words
pub mod Usage
pub mod Examples
