mod PartLemmas
