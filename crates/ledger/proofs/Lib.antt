pub mod Parts
pub mod Bits
pub mod Rows
pub mod Owing
pub mod Turns
pub mod Firsts
