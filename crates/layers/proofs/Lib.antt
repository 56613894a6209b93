pub mod Fetches
pub mod Folds
pub mod Overlays
pub mod Lookups
