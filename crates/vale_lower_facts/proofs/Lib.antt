mod Callees
mod Entries
mod Examples
mod Labels
mod Names
mod Operators
pub mod Program
mod Rows
mod Runs
mod Stands
mod Tree
mod Ways
