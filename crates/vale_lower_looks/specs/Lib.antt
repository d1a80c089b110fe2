pub mod Comes
pub mod Parts
