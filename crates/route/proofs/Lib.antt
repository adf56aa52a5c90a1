pub mod Laws
pub mod Masks
