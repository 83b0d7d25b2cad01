mod TableLemmas
mod ResultLemmas
pub mod ReadingLemmas
