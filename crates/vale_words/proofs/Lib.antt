pub mod FaultLemmas
pub mod NumberLemmas
pub mod OneJob
pub mod OptionLemmas
pub mod ScheduleLemmas
pub mod WordLemmas
