pub mod LabelLemmas
pub mod NodeLemmas
pub mod StepLemmas
pub mod FollowLemmas
pub mod CallLemmas
pub mod ViewLemmas
pub mod StageLemmas
pub mod StatementCalls
