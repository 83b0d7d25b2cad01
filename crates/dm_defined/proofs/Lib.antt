mod PartLemmas
mod MadeLemmas
mod OrderLemmas
mod SameLemmas
