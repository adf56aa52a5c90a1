pub mod Seen
pub mod Down
pub mod Chain
pub mod Find
pub mod Edge
pub mod Says
