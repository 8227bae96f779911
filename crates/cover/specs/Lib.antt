pub mod Bits
pub mod Spans
pub mod Rows
pub mod Marks
