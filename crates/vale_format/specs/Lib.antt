pub mod Format
pub mod Named
