pub mod PartLaws
pub mod ReturnLaws
pub mod ViewLaws
