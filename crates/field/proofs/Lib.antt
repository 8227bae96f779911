pub mod Boxes
pub mod Axis
pub mod Places
pub mod Chains
pub mod Longest
pub mod Reaching
