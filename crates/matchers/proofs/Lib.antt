pub mod Marking
pub mod Scans
pub mod Forward
pub mod Filling
pub mod Comparing
