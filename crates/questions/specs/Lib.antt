pub mod Nearest
pub mod Asking
pub mod Linking
