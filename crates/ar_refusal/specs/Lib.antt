pub mod Refused
pub mod Usage
pub mod Warned
pub use Rattle.ar_command.specs.Serving
