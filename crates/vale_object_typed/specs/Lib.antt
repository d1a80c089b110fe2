pub mod Covered
pub mod Fit
pub mod Tables
