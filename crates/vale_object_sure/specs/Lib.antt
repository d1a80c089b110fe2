pub mod Lawful
pub mod Sure
