pub mod Answers
pub mod Founds
