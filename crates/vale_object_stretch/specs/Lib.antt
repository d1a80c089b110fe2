pub mod Sound
pub mod Stretch
