mod Renumbered
mod TableLemmas
mod RuleLemmas
mod ExpressionLemmas
mod InitialLemmas
mod StatementLemmas
mod UnitLemmas
mod JoinLemmas
mod PaddingLemmas
mod BoundLemmas
mod SeenLemmas
pub mod OutcomeLemmas
pub mod LayerLemmas
