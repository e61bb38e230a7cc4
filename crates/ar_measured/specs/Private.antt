-- Definitions of private contracts and of proofs alone: a reader need not believe them.
pub mod Measuring
