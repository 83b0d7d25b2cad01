pub mod CutLemmas
pub mod LineLemmas
pub mod OrderLemmas
pub mod VisibleLemmas
