pub mod Laying
pub mod Parted
pub mod InOrder
pub mod ShapeTurns
