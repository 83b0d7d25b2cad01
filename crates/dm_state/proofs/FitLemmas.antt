-- The items of rows fit where they do on both sides of the place.
use Rattle.std.proofs.Common.{◌≡◌, ℕ, zero, suc, ◌≤◌, List, [], ◌∷◌, ◌++◌, length, take, ap, ◌∙◌, arith}
use Rattle.dm_type.specs.Tables.{Table}
use Rattle.dm_meaning.specs.Running.{Run}
use Rattle.dm_value.specs.declared.place.At.{At}
use Rattle.dm_operate.specs.declared.evaluation.Operand.{Operand}
use Rattle.dm_row.specs.declared.item.Item.{Item}
use Rattle.dm_row.specs.declared.item.Item.TheVariants.{Done, Waits}
use Rattle.dm_postfix.specs.Postfix.{tree_of}
use Rattle.dm_postfix.proofs.HoleLemmas.{tree-items}
use Rattle.dm_expression.specs.declared.expression.Expression.{Expression}
use Rattle.dm_expression.specs.declared.waiting.Waiting.{Waiting}
use Rattle.dm_row.specs.Counts.{weight_in}
use Rattle.dm_state.specs.declared.running.Caller.{Caller}
use Rattle.dm_state.specs.Fits.{CallerFits}
use Rattle.dm_state.specs.Standing.{AreFit, IsUnder}
use Rattle.dm_state.specs.Views.{run_of}

pub fit-first : (table : Table) (xs ys : List (Item Operand Waiting)) → AreFit table (xs ++ ys) → AreFit table xs
fit-first table [] ys h = tt
fit-first table (Done operand weight ∷ xs) ys h = (h.0, fit-first table xs ys h.1)
fit-first table (Waits one count ∷ xs) ys h = (h.0, h.1, fit-first table xs ys h.2)

pub fit-second : (table : Table) (xs ys : List (Item Operand Waiting)) → AreFit table (xs ++ ys) → AreFit table ys
fit-second table [] ys h = h
fit-second table (Done operand weight ∷ xs) ys h = fit-second table xs ys h.1
fit-second table (Waits one count ∷ xs) ys h = fit-second table xs ys h.2

pub fit-both : (table : Table) (xs ys : List (Item Operand Waiting)) → AreFit table xs → AreFit table ys → AreFit table (xs ++ ys)
fit-both table [] ys a b = b
fit-both table (Done operand weight ∷ xs) ys a b = (a.0, fit-both table xs ys a.1 b)
fit-both table (Waits one count ∷ xs) ys a b = (a.0, a.1, fit-both table xs ys a.2 b)

-- the tree for which an expression stands is the one that it shows
pub run-under : (table : Table) (expression : Expression Operand At) (run : Run) → IsUnder table expression run → run_of table expression ≡ run
run-under table expression run under = ap tree_of under.same ∙ tree-items run

-- a list with so many items has no fewer
take-short : {X : Type 0} (n : ℕ) (xs : List X) → length (take n xs) ≡ n → n ≤ length xs
take-short zero xs e = omega arith
take-short (suc n) [] e = absurd (omega (arith, e))
take-short (suc n) (x ∷ xs) e = let fewer = take-short n xs (omega (arith, e)) in omega (arith, fewer)

-- the locks in front of the call's place are there
pub caller-room : (table : Table) (caller : Caller) → CallerFits table caller → weight_in caller.expression.row.0 ≤ length caller.expression.locks.items
caller-room table caller fits = take-short (weight_in caller.expression.row.0) caller.expression.locks.items fits.lacks.first_weighed
