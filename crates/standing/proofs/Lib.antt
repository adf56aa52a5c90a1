pub mod Actions
pub mod Recording
pub mod Undoing
pub mod Turning
