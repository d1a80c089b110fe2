pub mod AddedLaws
pub mod ArrayLaws
pub mod ItemLaws
pub mod KindLaws
pub mod NameLaws
