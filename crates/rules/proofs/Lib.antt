pub mod Words
pub mod Counts
pub mod Occurs
pub mod Helds
pub mod Folds
