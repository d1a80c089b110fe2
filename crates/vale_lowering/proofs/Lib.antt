pub mod BuiltIns
pub mod Calls
pub mod Counts
pub mod Drops
pub mod Entry
mod Examples
pub mod Lookups
pub mod Main
pub mod Operations
pub mod Operators
pub mod Program
pub mod Ranges
pub mod Reaches
pub mod Registers
pub mod Shapes
pub mod Tree
