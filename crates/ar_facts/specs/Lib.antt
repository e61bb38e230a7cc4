pub mod Private
pub mod Names
pub mod Facts
pub mod Report
pub mod ReportData
pub mod ReportReader
