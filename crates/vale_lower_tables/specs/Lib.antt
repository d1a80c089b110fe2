pub mod Callable
pub mod Codes
pub mod Kept
pub mod Surroundings
