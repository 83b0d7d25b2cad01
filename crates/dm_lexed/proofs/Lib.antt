mod WordLemmas
mod ExpansionLemmas
mod TokenLemmas
mod UnitLemmas
