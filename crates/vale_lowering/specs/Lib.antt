pub mod Instructions
pub mod Lowered
pub mod Scopes
pub mod Texts
