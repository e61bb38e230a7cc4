pub mod Length
pub mod Compiled
pub mod Ends
pub mod Acceptance
pub mod Answer
pub mod Private
