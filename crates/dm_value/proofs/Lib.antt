pub mod ClosedLemmas
pub mod ValueLemmas
