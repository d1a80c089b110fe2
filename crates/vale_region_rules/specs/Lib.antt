pub mod Items
pub mod Last
pub mod Places
