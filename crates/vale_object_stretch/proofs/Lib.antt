pub mod Instructions
pub mod Stretching
