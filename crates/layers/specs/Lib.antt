pub mod Folded
pub mod Pasted
pub mod FoldedTexts
pub mod PastedTexts
