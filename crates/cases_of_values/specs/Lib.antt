pub mod Output
pub mod Faults
pub mod Members
pub mod Printing
pub mod Calls
pub mod Numbers
