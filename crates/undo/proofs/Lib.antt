pub mod TakenBack
