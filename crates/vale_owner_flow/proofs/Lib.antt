pub mod FoundLaws
pub mod ListLaws
pub mod LocalLaws
