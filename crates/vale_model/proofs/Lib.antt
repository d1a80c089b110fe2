mod LongerLaws
pub mod LongerMeaning
mod LongerSteps
mod LongerTree
pub mod MeaningLaws
mod MeaningTexts
mod Programs
mod RuleTexts
mod RunLaws
mod TreeLaws
