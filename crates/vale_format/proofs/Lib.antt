pub mod Fixed
mod Lexemes
mod NamedTrees
mod Rendered
mod Round
mod Spots
