pub mod DistinctLemmas
pub mod NamingLemmas
pub mod SoundLemmas
pub mod LayoutLemmas
pub mod ComparisonLemmas
pub mod WritingLemmas
pub mod ComposingLemmas
