pub mod Lines
pub mod Texts
pub mod Values
pub mod Trees
