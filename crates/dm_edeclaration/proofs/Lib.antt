pub mod InitialKeepLemmas
pub mod DeclarableLemmas
pub mod StepLemmas
pub mod ItemLemmas
pub mod DeclarationLemmas
