mod ArrayExamples
mod Beside
mod CallExamples
mod Codes
mod DepthExamples
pub mod Ends
mod Fits
mod FreezeExamples
pub mod LongerLaws
mod LongerSteps
mod LoopExamples
mod NumberExamples
mod ObjectExamples
pub mod OperandLaws
pub mod RunLaws
