mod Alone
mod Examples
mod Fronts
mod Goes
mod NumberLemmas
pub mod OneCut
pub mod Runs
mod Scans
mod SignLemmas
pub mod Sorted
pub mod Tells
mod Walk
mod WordLemmas
