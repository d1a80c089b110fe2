pub mod FunctionLaws
pub mod MoveLaws
pub mod WalkLaws
