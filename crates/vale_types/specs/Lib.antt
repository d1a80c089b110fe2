pub mod Before
pub mod Known
pub mod Plain
pub mod Walk
