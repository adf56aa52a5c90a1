pub mod Means
pub mod Answers
pub mod Masks
pub mod Text
