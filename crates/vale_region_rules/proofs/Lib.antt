pub mod CallLaws
pub mod PlaceLaws
pub mod SignatureLaws
