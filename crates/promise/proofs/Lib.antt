pub mod Promises
pub mod Stable
pub mod Pinned
pub mod Sounds
pub mod Caught
pub mod Holes
pub mod Runs
pub mod History
