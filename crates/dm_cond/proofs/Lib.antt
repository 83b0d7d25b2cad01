pub mod Results
pub mod Reductions
pub mod Levels
pub mod Completeness
pub mod Soundness
pub mod Characters
pub mod Truths
pub mod Runs
