pub mod Joined
pub mod Reached
pub mod Told
