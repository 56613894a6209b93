pub mod Units
pub mod Terms
pub mod Pages
pub mod Debts
pub mod Marks
pub mod Books
