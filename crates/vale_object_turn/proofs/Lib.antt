pub mod BirthLaws
pub mod Destroying
pub mod Mirrors
pub mod Stepping
