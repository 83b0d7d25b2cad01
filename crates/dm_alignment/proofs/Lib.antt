pub mod NameLemmas
pub mod AddedLemmas
pub mod ReadingLemmas
pub mod RunLemmas
