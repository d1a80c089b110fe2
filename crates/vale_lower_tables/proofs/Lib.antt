pub mod FieldLaws
pub mod FunctionLaws
