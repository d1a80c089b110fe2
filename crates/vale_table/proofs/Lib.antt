mod PlainLemmas
mod MarkLemmas
mod StepLemmas
mod HandLemmas
mod SeatLemmas
mod ViewLemmas
mod BaseLaws
pub mod SeatLaws
