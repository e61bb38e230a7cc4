-- Definitions of private contracts, which follow the code: a reader need not believe them.
pub mod Forming
