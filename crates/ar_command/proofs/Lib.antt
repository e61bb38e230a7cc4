pub mod Documents
pub mod Reporting
pub mod OneText
pub mod OneNumbering
pub mod OneReason
pub mod OneReport
pub mod Naming
mod Reasons
