pub mod PartLaws
pub mod ViewLaws
