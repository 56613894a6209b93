pub mod Windows
pub mod TwoWays
