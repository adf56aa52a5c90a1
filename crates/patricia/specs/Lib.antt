pub mod Tree
pub mod Obeys
pub mod Good
pub mod Way
pub mod Size
