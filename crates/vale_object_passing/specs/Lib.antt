pub mod Giving
pub mod Passing
