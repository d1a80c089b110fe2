pub mod JumpLaws
pub mod NumberLaws
