pub mod ArrayLaws
pub mod BirthLaws
pub mod DropLaws
pub mod FieldLaws
pub mod Objects
pub mod ReferenceLaws
pub mod Registers
