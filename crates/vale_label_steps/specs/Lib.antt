pub mod Filling
pub mod Progress
pub mod Shapes
pub mod Standing
