pub mod Reason
pub mod Views
pub mod ReasonText
pub mod ReasonData
pub mod ReasonLaws
pub mod Private
