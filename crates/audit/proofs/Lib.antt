pub mod Places
pub mod Sounding
