pub mod Does
pub mod Noted
