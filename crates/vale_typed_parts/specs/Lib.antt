pub mod Valued
pub mod Walk
