pub mod LoopLaws
pub mod PartLaws
pub mod RowLaws
pub mod Rules
pub mod TypeLaws
pub mod WalkLaws
