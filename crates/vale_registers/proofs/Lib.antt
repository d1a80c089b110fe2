pub mod Bases
pub mod Passes
pub mod Registers
pub mod Rows
