pub mod Chain
pub mod Tree
