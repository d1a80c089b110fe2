pub mod After
pub mod Functions
pub mod Moves
