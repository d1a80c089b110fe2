pub mod Steps
pub mod Reading
pub mod ItemReading
pub mod Gives
pub mod Seen
pub mod Turns
