pub mod Heights
pub mod Starts
