pub mod Types
pub mod Instructions
pub mod File
