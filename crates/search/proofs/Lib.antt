pub mod Sight
pub mod Bare
pub mod Partway
pub mod Led
pub mod Chain
pub mod Spots
pub mod Left
pub mod Rising
