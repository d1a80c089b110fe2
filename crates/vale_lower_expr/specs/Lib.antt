pub mod Entries
pub mod Found
pub mod Held
pub mod Jumps
pub mod Numbered
pub mod Places
pub mod Quotes
pub mod Surroundings
