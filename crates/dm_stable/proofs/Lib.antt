pub mod BuiltLemmas
pub mod MarkLemmas
pub mod ObjectLemmas
pub mod StabilityLemmas
