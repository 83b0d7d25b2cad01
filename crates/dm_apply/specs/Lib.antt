pub mod Commits
pub mod Endings
pub mod Generation
pub mod Outputs
pub mod Plans
pub mod Summaries
