pub mod FrameLaws
pub mod StackLaws
