pub mod AccessLemmas
pub mod BlockLemmas
pub mod ChangedLemmas
