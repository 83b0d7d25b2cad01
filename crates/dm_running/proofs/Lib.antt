pub mod CompleteRuns
mod FinishSteps
pub mod RunSteps
