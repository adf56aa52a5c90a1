pub mod Cases
pub mod First
pub mod Part
pub mod Mask
