pub mod Links
pub mod Hanging
pub mod Grown
