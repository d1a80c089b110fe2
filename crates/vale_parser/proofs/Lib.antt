pub mod Answered
pub mod OnlyLevels
