pub mod Iterators
pub mod ListSteps
pub mod ProjectLaws
pub mod Short
pub mod SourceSteps
