pub mod ListLemmas
pub mod UnitLemmas
pub mod WordLemmas
pub mod PlaceLemmas
pub mod LineLemmas
