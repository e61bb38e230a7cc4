pub mod Members
pub mod Names
pub mod Declaration
pub mod Reading
pub mod Document
pub mod Private
pub use Rattle.serde_json.specs.Data
pub mod Refusals
