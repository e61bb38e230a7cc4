pub mod Appended
pub mod Ended
pub mod Escapes
pub mod Still
pub mod TokenBytes
