pub mod Mays
