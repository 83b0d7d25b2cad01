pub mod FileLemmas
pub mod LineLemmas
pub mod NewlineLemmas
pub mod SearchLemmas
pub mod SortLemmas
pub mod TableLemmas
