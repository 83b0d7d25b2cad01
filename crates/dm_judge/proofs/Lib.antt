mod ChangeLemmas
mod SearchLemmas
mod ProposalLemmas
mod SlotLemmas
mod UnitLemmas
