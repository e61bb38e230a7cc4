pub mod Event
pub mod Growing
pub mod Bundle
pub mod Sound
pub mod Lawful
pub mod Finished
