pub mod Faults
pub mod FileList
pub mod Shelf
pub mod Streams
