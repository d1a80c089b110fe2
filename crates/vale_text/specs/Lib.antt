pub mod Gives
pub mod Operations
pub mod Progress
pub mod Steps
