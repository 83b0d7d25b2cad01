-- An expression of which no node has a step is a result.
use Rattle.std.proofs.Common.{◌≡◌, ℕ, List, [], ◌∷◌, ◌++◌, map, refl, ap, sym, ◌∙◌, subst, take}
use Rattle.dm_type.specs.Tables.{Table, type_of}
use Rattle.dm_meaning.specs.Running.{Run, done}
use Rattle.dm_meaning.specs.Values as values
use Rattle.dm_operate.specs.declared.evaluation.Operand.{Operand}
use Rattle.dm_operate.specs.Evaluations.{view_of_evaluation}
use Rattle.dm_postfix.specs.Postfix as postfix
use Rattle.dm_postfix.specs.Postfix.{Evaluated, evaluated, waiting, items}
use Rattle.dm_postfix.specs.Reductions.{ready_count}
use Rattle.dm_postfix.proofs.BegunLemmas.{none-ready}
use Rattle.dm_row.specs.declared.item.Item.{Item}
use Rattle.dm_row.specs.declared.item.Item.TheVariants.{Done, Waits}
use Rattle.dm_row.specs.Counts.{ready_in}
use Rattle.dm_value.specs.declared.place.At.{At}
use Rattle.dm_value.specs.Places.{view_of_at}
use Rattle.dm_expression.specs.declared.expression.Expression.{Expression}
use Rattle.dm_expression.specs.declared.waiting.Waiting.{Waiting}
use Rattle.dm_expression.specs.Standing.{viewed}
use Rattle.dm_expression.proofs.StandLemmas.{ready-viewed}
use Rattle.dm_state.specs.Standing.{see, IsUnder}

-- the only result of a row
pub record IsResult (table : Table) (row : List (Item Operand Waiting)) (run : Run) : Type 0 where
  pub operand : Operand
  pub weight : ℕ
  pub only : row ≡ Done operand weight ∷ []
  pub locks : List values.At
  pub is : run ≡ done (type_of table operand.kind) (view_of_evaluation operand.result) locks

-- the first result, or this tree
abbrev first_run : Run → List postfix.Item → Run
first_run otherwise [] = otherwise
first_run otherwise (evaluated one ∷ rest) = done one.kind one.result one.locks
first_run otherwise (waiting node ∷ rest) = otherwise

-- a row that stands for a result is one
result-row : (table : Table) (locks : List At) (row : List (Item Operand Waiting)) (one : Evaluated)
    → viewed (see table) table locks row ≡ evaluated one ∷ [] → IsResult table row (done one.kind one.result one.locks)
result-row table locks [] one is = absurd (cc)
result-row table locks (Waits node count ∷ rest) one is = absurd (cc)
result-row table locks (Done operand weight ∷ []) one is = record {
  operand = operand;
  weight = weight;
  only = refl;
  locks = map view_of_at (take weight locks);
  is = sym (ap (first_run (done one.kind one.result one.locks)) is);
}
result-row table locks (Done operand weight ∷ Done other more ∷ rest) one is = absurd (cc)
result-row table locks (Done operand weight ∷ Waits node count ∷ rest) one is = absurd (cc)

-- an expression that stands for a tree of which nothing is left to evaluate
pub evaluated-alone : (table : Table) (expression : Expression Operand At) (run : Run) → IsUnder table expression run
    → ready_in 0 (expression.row.0 ++ expression.row.1) ≡ 0 → IsResult table (expression.row.0 ++ expression.row.1) run
evaluated-alone table expression run under none =
    let row = expression.row.0 ++ expression.row.1 in
    let found = none-ready run (sym (ap (ready_count 0) under.same) ∙ (ready-viewed (see table) table expression.locks.items 0 row under.sized ∙ none)) in
    subst (IsResult table row) (sym found.1) (result-row table expression.locks.items row found.0 (under.same ∙ ap items found.1))
