pub mod FunctionLaws
pub mod IfLaws
pub mod NodeLaws
pub mod PartLaws
pub mod Rules
