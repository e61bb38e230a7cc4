pub use Rattle.ar_value.specs.Operators
pub mod Expression
pub mod Typed
pub mod Limits
pub mod Views
pub mod Meaning
