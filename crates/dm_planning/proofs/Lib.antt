pub mod EditLemmas
pub mod EditingLemmas
pub mod JudgeLemmas
pub mod LeaveLemmas
pub mod PlanLemmas
pub mod StopLemmas
