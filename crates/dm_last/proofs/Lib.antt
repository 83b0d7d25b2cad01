pub mod EditedLemmas
mod FileLemmas
pub mod OverLemmas
