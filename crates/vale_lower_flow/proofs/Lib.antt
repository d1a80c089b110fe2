pub mod ClosingLaws
pub mod FlowLaws
pub mod PartLaws
pub mod ScopeLaws
