pub mod LookupLemmas
pub mod NumberLemmas
pub mod PositionLemmas
