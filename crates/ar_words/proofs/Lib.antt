pub mod Listed
pub mod Nearly
pub mod Signs
