pub mod Closing
pub mod Entries
pub mod Flow
pub mod Kept
