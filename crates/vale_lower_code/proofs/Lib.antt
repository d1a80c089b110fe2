pub mod PatchLaws
pub mod WalkLaws
pub mod FunctionLaws
pub mod JumpLaws
pub mod WholeLaws
