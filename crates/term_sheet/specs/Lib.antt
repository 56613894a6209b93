pub mod Fields
pub mod Faults
pub mod Sheets
pub mod Entries
pub mod Readers
pub mod Examples
pub mod Entered
