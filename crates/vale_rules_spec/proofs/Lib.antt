mod DeclRows
mod DeclTexts
mod OwnTexts
mod TypeTexts
pub mod JudgedLaws
pub mod ReachLaws
