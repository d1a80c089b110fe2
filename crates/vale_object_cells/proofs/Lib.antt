pub mod Carrying
pub mod Holding
pub mod Naming
