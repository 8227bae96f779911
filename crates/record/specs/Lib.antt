pub mod Cutting
pub mod Sections
pub mod Inspecting
pub mod Building
pub mod Delivered
pub mod Outputs
