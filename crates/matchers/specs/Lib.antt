pub mod Matchers
pub mod Compare
pub mod Places
