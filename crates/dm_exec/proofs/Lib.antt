pub mod SeenLemmas
pub mod RunLemmas
pub mod LeavingLemmas
pub mod DueLemmas
pub mod BeginLemmas
pub mod EvaluatedLemmas
pub mod TakeLemmas
pub mod BesideLemmas
