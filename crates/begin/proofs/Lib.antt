pub mod Began
