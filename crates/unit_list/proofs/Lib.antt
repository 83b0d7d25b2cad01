mod KnownLemmas
mod UnitLemmas
