mod CutLemmas
mod DefineLemmas
mod PhaseLemmas
mod WordLemmas
