pub mod AnswerLaws
pub mod WalkLaws
