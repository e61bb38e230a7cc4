pub mod Evaluated
pub mod EvaluatedText
pub mod EvaluatedData
pub mod Private
