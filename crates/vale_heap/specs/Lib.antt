pub mod ListState
pub mod HeapState
pub mod Layout
pub mod HeapLends
pub mod Standing
