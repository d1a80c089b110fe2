pub mod PartLaws
pub mod TakeLaws
pub mod TyLaws
