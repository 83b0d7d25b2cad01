pub mod Heads
pub mod Splices
pub mod SparseLemmas
pub mod PlainLemmas
pub mod CursorLemmas
