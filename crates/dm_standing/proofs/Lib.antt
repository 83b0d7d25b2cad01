pub mod ArityLemmas
pub mod CallLemmas
pub mod OccurrenceLemmas
pub mod RunLemmas
mod RunExample
pub mod TypedLemmas
pub mod UnitLemmas
