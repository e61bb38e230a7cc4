-- Definitions of private contracts and of proofs alone, which follow the code: a reader need not believe them.
pub mod Inward
pub mod Advised
