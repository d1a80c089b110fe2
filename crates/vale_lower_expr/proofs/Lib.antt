pub mod CodeBufferLaws
pub mod NodeLaws
pub mod NumberLaws
pub mod QuoteLaws
pub mod RoomLaws
pub mod ScopeLaws
pub mod ShapeLaws
