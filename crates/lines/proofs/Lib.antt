mod Digits
mod Putting
mod Reporting
pub mod Once
