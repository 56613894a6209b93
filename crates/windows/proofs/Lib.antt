pub mod TwoWay
pub mod Centres
pub mod Steps
pub mod Kept
