-- What threads share.
pub mod Boards
