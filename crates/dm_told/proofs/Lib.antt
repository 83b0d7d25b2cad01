pub mod FindLemmas
pub mod OnlyLemmas
pub mod RowLemmas
pub mod ExpressionLemmas
pub mod UnitLemmas
