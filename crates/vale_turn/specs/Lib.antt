pub mod Comparing
pub mod Served
pub mod View
