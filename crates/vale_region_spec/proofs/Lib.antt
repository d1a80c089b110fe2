mod RegionTexts
pub mod FoundLaws
pub mod GivenLaws
pub mod ListLaws
