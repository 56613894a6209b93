pub mod Galleys
pub mod Byte
pub mod Packing
pub mod SixBit
pub mod SixBitTexts
