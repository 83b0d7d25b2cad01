pub mod MarkLemmas
pub mod PrefixLemmas
pub mod Walks
