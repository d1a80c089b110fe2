mod FaultLaws
mod InterfaceLaws
mod Rules
pub mod ByteLaws
pub mod ServedLaws
