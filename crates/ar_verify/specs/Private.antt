-- Definitions of private contracts and of proofs alone, which follow the code: a reader need not believe them.
pub mod Lists
pub mod Forms
pub mod Roots
pub mod Parts
pub mod Shapes
pub mod Kinds
pub mod Failures
pub mod Stacks
pub mod Held
pub mod Sending
pub mod Table
pub mod Depths
pub mod Costs
