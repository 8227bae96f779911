pub mod Trees
pub mod Conditions
