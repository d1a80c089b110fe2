pub mod Calls
pub mod Tied
