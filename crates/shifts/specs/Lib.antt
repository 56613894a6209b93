pub mod Marks
pub mod ShiftOrs
pub mod Shiftings
pub mod ShiftAnds
pub mod Examples
pub mod Filled
