pub mod Doing
pub mod Drops
pub mod Indices
pub mod Keeping
pub mod Lent
pub mod Views
