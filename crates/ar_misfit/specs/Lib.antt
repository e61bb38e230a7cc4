pub mod Misfit
pub mod Views
pub mod FloatText
pub mod MisfitText
pub mod MisfitData
pub mod Examples
pub mod Private
