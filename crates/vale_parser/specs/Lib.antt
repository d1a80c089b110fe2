pub mod Refusal
pub mod TooMany
