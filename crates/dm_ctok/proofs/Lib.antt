pub mod DigitLemmas
pub mod ElementLemmas
pub mod JoinLemmas
pub mod KindLemmas
pub mod RowLemmas
pub mod TokenLemmas
