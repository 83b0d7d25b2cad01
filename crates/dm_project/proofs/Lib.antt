mod AgainLemmas
mod UnitLemmas
