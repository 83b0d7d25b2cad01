pub mod LeadLemmas
pub mod LinkLemmas
pub mod NodeLemmas
pub mod PlaceLemmas
pub mod SiteLemmas
pub mod WaitLemmas
pub mod WalkLemmas
