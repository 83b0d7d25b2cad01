pub mod ListLemmas
pub mod MoveLemmas
pub mod ReductionLemmas
pub mod HoleLemmas
pub mod StepLemmas
pub mod BegunLemmas
