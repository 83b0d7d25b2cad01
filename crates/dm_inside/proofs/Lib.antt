mod CutLemmas
mod RowLemmas
mod ShownLemmas
