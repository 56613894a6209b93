pub mod Seen
pub mod Calls
pub mod Books
pub mod Locates
pub mod Works
pub mod Runs
pub mod Withdrawing
