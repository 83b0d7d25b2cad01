mod NameLemmas
mod SpanLemmas
mod RunLemmas
mod OccurLemmas
