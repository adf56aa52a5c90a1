pub mod Cells
pub mod Plan
pub mod Steps
pub mod Planned
