pub mod NodeLaws
pub mod StepLaws
pub mod FormLaws
pub mod BlockLaws
