pub mod Around
pub mod Fronts
pub mod Rejoin
pub mod Onward
