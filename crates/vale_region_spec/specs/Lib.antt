pub mod Found
pub mod Isolated
pub mod RegionRules
pub mod Regions
