pub mod Rules
pub mod Stretching
