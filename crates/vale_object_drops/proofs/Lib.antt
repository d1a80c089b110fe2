pub mod Beginning
pub mod Dropping
pub mod Lifting
pub mod Merging
pub mod Owning
