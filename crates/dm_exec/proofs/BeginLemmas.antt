-- An expression of which nothing is evaluated.
use Rattle.std.proofs.Common.{◌≡◌, List, [], ◌∷◌, ◌++◌, length, sym, ap₂, ◌∙◌, subst, append-nil}
use Rattle.dm_type.specs.Tables.{Table}
use Rattle.dm_tree.specs.declared.tree.Core.{Core}
use Rattle.dm_tree.specs.Views.{view}
use Rattle.dm_meaning.specs.Running.{begun}
use Rattle.dm_value.specs.declared.place.At.{At}
use Rattle.dm_operate.specs.declared.evaluation.Operand.{Operand}
use Rattle.dm_row.specs.declared.item.Item.{Item}
use Rattle.dm_row.specs.declared.item.Item.TheVariants.{Done, Waits}
use Rattle.dm_postfix.specs.Postfix as postfix
use Rattle.dm_expression.specs.declared.expression.Expression.{Expression}
use Rattle.dm_expression.specs.declared.waiting.Waiting.{Waiting}
use Rattle.dm_expression.specs.Standing.{Stands}
use Rattle.dm_expression.specs.Waiting.{AreWaiting, AreWaitingExpressions, AreWaitingKnown, IsPut}
use Rattle.dm_expression.proofs.StandLemmas.{begins}
use Rattle.dm_frame.specs.Tasks.{ExpressionFits}
use Rattle.dm_state.specs.Standing.{see, AreFit, Fits, IsUnder}

-- nodes that wait fit, where their types are known and no statement is in them
fits-put : (table : Table) (put : List (Item Operand Waiting)) (others : List postfix.Item) → AreWaiting table put others → AreWaitingKnown (length table.shapes) put
    → ((types : Table) → AreWaitingExpressions types put) → AreFit table put
fits-put table [] others waits known nodes = tt
fits-put table (Done operand weight ∷ rest) others waits known nodes = absurd waits
fits-put table (Waits one count ∷ rest) [] waits known nodes = absurd waits
fits-put table (Waits one count ∷ rest) (postfix.evaluated other ∷ others) waits known nodes = absurd waits
fits-put table (Waits one count ∷ rest) (postfix.waiting other ∷ others) waits known nodes =
    (known.0, (λ types. (nodes types).0), fits-put table rest others waits.2 known.1 (λ types. (nodes types).1))

module _ (table : Table) (tree : Core) (expression : Expression Operand At) (put : IsPut tree ([], []) expression.row) (none : expression.locks.items ≡ []) where
  pub begun-under : IsUnder table expression (begun (view table tree))
  begun-under = subst (λ (locks : List At). Stands (see table) table expression.row locks (begun (view table tree))) (sym none) (begins (see table) table tree expression.row put)

  pub begun-fits : ExpressionFits table tree → Fits table expression
  begun-fits fits =
      let whole : expression.row.0 ++ expression.row.1 ≡ put.put = ap₂ (λ xs ys. xs ++ ys) put.in_front put.behind ∙ append-nil put.put in
      let waits = put.waits table in
      subst (AreFit table) (sym whole) (fits-put table put.put waits.0 waits.2 (put.known (length table.shapes) fits.0).1 put.nodes)
