pub mod Private
pub mod Opening
pub mod Parts
pub mod Entries
pub mod Document
pub mod Unmeasured
pub mod Refusals
