pub mod Rows
pub mod ViewLemmas
pub mod ExpressionLemmas
pub mod ListLemmas
