pub mod CatalogueLemmas
mod ExampleLemmas
pub mod ExpansionLemmas
pub mod KeptLemmas
mod MarkLemmas
mod OrderLemmas
mod SearchedLemmas
mod StayLemmas
pub mod TokenLemmas
