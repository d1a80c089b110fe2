pub mod Delivered
pub mod Outside
