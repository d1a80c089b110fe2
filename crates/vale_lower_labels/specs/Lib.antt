pub mod Bodies
pub mod Going
pub mod Sides
