pub mod Place
pub mod Diagnostic
pub mod Listing
pub mod DiagnosticData
