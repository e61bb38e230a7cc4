pub mod StatedCondition
pub mod Stated
pub mod ConditionReader
pub mod ExplanationReader
pub mod StatedText
pub mod StatedLaws
