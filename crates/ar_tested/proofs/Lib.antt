pub mod Ahead
pub mod Made
pub mod Turns
pub mod Ends
