pub mod Apart
pub mod Views
