pub mod Frames
pub mod Numbers
