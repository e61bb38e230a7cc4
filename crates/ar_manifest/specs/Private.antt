-- What only the proofs of the code use.
pub mod Early
pub mod Made
pub mod Feeding
pub mod BoundParts
pub mod Within
pub mod Shown
