pub mod Levels
pub mod Built
pub mod Loops
pub mod Numbered
pub mod TurnLaws
