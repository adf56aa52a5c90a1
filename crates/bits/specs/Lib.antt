pub mod Address
pub mod Mask
pub mod Hole
pub mod Answer
