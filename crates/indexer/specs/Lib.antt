pub mod Machine
pub mod Listed
pub mod Looks
pub mod Sounds
pub mod Called
pub mod Works
pub mod Withdrawals
