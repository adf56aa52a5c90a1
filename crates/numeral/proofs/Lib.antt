pub mod Wording
pub mod Digits
pub mod Dots
pub mod Addresses
