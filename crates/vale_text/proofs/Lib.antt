mod NumeralLemmas
mod NumeralLaws
pub mod StateLaws
pub mod WorldLaws
