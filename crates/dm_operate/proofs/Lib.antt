pub mod ConversionLemmas
pub mod MovedLemmas
pub mod OperatorLemmas
pub mod SeenLemmas
pub mod StoreLemmas
