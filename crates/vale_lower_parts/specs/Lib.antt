pub mod Branches
pub mod Emitted
pub mod Located
pub mod Named
