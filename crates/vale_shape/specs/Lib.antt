pub mod Known
pub mod Under
