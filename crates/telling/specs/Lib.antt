pub mod Answers
pub mod Sums
