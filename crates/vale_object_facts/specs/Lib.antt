pub mod Facts
pub mod Faultless
pub mod Slots
pub mod Stands
pub mod Suits
