pub mod Words
pub mod Values
pub mod PartText
pub mod Private
