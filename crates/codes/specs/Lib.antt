pub mod Codes
pub mod Out
