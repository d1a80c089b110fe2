mod ArmLaws
mod ByteLaws
mod EachLaws
mod Examples
mod ExprLaws
mod ItemLaws
mod ListLaws
mod StepLaws
pub mod Apart
pub mod Lays
pub mod Moves
pub mod Neat
pub mod Numbered
pub mod Same
pub mod SameLayout
