pub mod Bindings
pub mod Causes
pub mod Cuts
pub mod DryRun
pub mod Entries
mod Facts
pub mod Filling
pub mod First
pub mod Keeping
pub mod LimitTexts
pub mod Lists
pub mod Memory
pub mod Parts
pub mod Refusing
pub mod Spaces
pub mod Steps
pub mod TextParts
pub mod Unbound
