pub mod Checking
pub mod Listing
pub mod Comparing
