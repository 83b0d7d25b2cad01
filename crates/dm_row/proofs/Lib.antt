pub mod SideLemmas
pub mod SeekLemmas
