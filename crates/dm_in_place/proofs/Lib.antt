pub mod LocalLemmas
pub mod SetLemmas
pub mod OnceLemmas
pub mod InsideLemmas
pub mod FoundLemmas
