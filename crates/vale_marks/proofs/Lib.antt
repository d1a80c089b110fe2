pub mod ReachLaws
pub mod WayLaws
