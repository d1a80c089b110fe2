pub mod FlowView
pub mod Places
