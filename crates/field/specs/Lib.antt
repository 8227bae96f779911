pub mod Found
pub mod Boxes
pub mod Buckets
pub mod Sides
pub mod Reach
