mod PlainLemmas
mod WalkLemmas
