pub mod Excess
pub mod Counts
pub mod Waiting
pub mod Settled
pub mod Steps
pub mod Why
pub mod Laws
pub mod Private
