mod ConditionLemmas
mod DefinitionLemmas
pub mod FileLemmas
pub mod GrowLemmas
mod KnownLemmas
mod LeaveLemmas
mod LineLemmas
pub mod ListLemmas
pub mod NameLemmas
pub mod OutcomeLemmas
mod PartLemmas
mod PlaceLemmas
mod ReadingLemmas
mod SearchLemmas
mod SourceLemmas
mod StepLemmas
mod TopLemmas
mod UnitLemmas
