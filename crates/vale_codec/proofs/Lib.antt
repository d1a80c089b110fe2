pub mod FormatLaws
pub mod NumberLaws
mod NumberSteps
mod SpellLaws
pub mod Loops
