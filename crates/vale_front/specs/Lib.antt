pub mod Front
pub mod Interfaces
