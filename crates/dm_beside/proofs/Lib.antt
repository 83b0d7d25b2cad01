pub mod AmidLemmas
pub mod EvaluationLemmas
pub mod KnownLemmas
pub mod KnownSiteLemmas
pub mod PlaceLemmas
pub mod TallyLemmas
