-- What threads share: a type that reaches itself is shown to be `Sync` by a step for each of its members, a larger one part by
-- part, since one search through all of a bundle runs out of steps.
pub mod Shapes
pub mod Values
pub mod Bundles
pub mod Queues
pub mod Jobs
