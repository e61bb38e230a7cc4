mod Signs
mod Digits
mod Making
pub mod Members
