mod Sheets
pub mod ListLaws
pub mod Tables
