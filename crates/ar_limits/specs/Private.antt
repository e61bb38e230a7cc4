-- Definitions of the private contracts and the proofs alone: how the code keeps a run, and what one event does to that.
--
-- No public contract speaks of them, so a reader need not believe them.
pub mod Bounds
pub mod Step
pub mod MetricStep
pub mod Kept
pub mod Inside
