pub mod FuncLaws
pub mod KnownLaws
pub mod LabelLaws
pub mod RuleLaws
pub mod WalkLaws
