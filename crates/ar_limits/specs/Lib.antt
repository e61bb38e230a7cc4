pub mod Prefixes
pub mod Metric
pub mod Run
pub mod Replay
pub mod Laws
pub mod Examples
pub mod Private
