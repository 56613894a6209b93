pub mod Pages
pub mod Book
