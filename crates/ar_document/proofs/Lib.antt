mod Steps
mod Naming
mod Counting
mod Templates
mod Sampling
mod Saying
mod Growing
mod Refusing
mod Shortened
mod Bundling
mod Answering
mod Measuring
mod Inputs
mod Lacking
pub mod OneAnswer
pub mod Earlier
