pub mod Code
pub mod Machine
pub mod Examples
