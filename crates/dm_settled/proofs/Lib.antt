pub mod MovedLemmas
pub mod PlaceLemmas
pub mod ApartLemmas
