pub mod Warned
pub mod FirstMisfit
