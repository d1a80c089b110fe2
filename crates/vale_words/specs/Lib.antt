pub mod FirstFault
pub mod Words
