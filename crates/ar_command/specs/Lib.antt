pub use Rattle.ar_eval.specs.Evaluation
pub mod Private
pub mod Serving
pub mod Warned
pub mod Served
pub mod Alike
