pub mod ConstLemmas
pub mod UnaryLemmas
