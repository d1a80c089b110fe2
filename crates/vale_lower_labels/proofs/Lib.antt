pub mod FunctionLaws
pub mod ListLaws
pub mod PlainLaws
pub mod WalkLaws
