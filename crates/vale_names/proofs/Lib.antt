pub mod EdgeLaws
pub mod IsoLaws
pub mod SpreadLaws
pub mod TestLaws
