pub mod Cells
pub mod Passing
pub mod Shares
pub mod Texts
