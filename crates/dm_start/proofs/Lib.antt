mod LoopLemmas
mod MakingLemmas
mod InitialLemmas
mod MovingLemmas
mod StoringLemmas
mod StartLemmas
