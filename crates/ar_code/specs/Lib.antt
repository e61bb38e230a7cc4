pub use Rattle.ar_op.specs.Code
pub use Rattle.ar_op.specs.Machine
pub mod Forms
pub mod Image
pub mod Decoding
pub mod Listing
