pub mod FitLemmas
pub mod TurnLemmas
pub mod CallLemmas
