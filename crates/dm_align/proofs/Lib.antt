pub mod SelfLemmas
pub mod NumberLemmas
pub mod StepLemmas
pub mod EntryLemmas
pub mod ParameterLemmas
pub mod InsertionLemmas
pub mod PlaceLemmas
pub mod AlignmentLemmas
