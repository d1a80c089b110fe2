pub mod FrameLaws
pub mod LoopLaws
pub mod NameLaws
pub mod Rules
