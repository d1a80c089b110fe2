pub mod TypeLaws
pub mod InstrLaws
pub mod FileLaws
pub mod WholeLaws
