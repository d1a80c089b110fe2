pub mod KnownLaws
pub mod ShapeLaws
