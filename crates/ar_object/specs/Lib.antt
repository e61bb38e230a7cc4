pub mod Object
pub mod Line
pub mod Written
