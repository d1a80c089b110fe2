pub mod Isos
pub mod Mentions
pub mod Names
pub mod Spread
