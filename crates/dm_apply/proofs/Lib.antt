pub mod CommitLemmas
pub mod CompleteLemmas
pub mod EndingLemmas
pub mod LaterLemmas
pub mod SummaryLemmas
