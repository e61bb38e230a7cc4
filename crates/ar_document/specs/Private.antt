-- Definitions of private contracts, which follow the code: a reader need not believe them.
pub mod Made
pub mod Naming
pub mod Opened
pub mod Parts
pub mod Earlier
pub mod Measured
pub mod Saying
