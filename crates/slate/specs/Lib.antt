pub mod Columns
pub mod Slate
