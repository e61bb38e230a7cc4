pub mod Kinds
pub mod Written
pub mod Readable
pub mod InPlace
pub mod Quotable
pub mod ReadsBack
pub mod Examples
