pub mod Destructors
pub mod Holds
pub mod Items
pub mod Known
pub mod KnownParts
mod KnownTree
mod Same
mod Texts
