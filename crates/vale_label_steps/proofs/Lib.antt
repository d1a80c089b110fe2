pub mod FillLaws
pub mod ProgressLaws
pub mod SlotLaws
pub mod StepLaws
