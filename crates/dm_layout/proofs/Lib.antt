pub mod DistanceLemmas
pub mod FieldLemmas
pub mod MoveLemmas
