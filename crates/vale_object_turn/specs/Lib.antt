pub mod Destroying
pub mod Landing
pub mod Objects
pub mod Steps
