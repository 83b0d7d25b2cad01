pub mod KnownLemmas
pub mod PutLemmas
pub mod TakenLemmas
pub mod StandLemmas
pub mod ChoiceLemmas
pub mod NodeLemmas
pub mod LeaveLemmas
