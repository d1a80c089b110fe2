pub mod PartLaws
pub mod Rules
