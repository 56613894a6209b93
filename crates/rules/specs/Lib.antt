pub mod Words
pub mod Terms
pub mod Refusals
pub mod Held
