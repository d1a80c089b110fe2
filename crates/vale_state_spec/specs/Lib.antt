pub mod Outcome
pub mod State
pub mod World
