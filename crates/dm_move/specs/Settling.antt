-- Full expressions that lack a node, and what they are once its step is put in.
--     gap table expression locks      the tree without the node, whose operands have so many locks
--     IsLacking table expression locks      the expression stands for that tree
--     GoesOn table before next run      it goes on with this tree
--     state_before table tasks world running      the state before the step, in this world
use Rattle.std.specs.Prelude.{◌≡◌, ℕ, List, take, drop}
use Rattle.dm_type.specs.Tables.{Table}
use Rattle.dm_meaning.specs.Running.{Run, Hole}
use Rattle.dm_meaning.specs.Operations.{World}
use Rattle.dm_meaning.specs.States as states
use Rattle.dm_value.specs.declared.place.At.{At}
use Rattle.dm_operate.specs.declared.evaluation.Operand.{Operand}
use Rattle.dm_row.specs.Counts.{weight_in}
use Rattle.dm_postfix.specs.Postfix.{hole_of}
use Rattle.dm_expression.specs.declared.expression.Expression.{Expression}
use Rattle.dm_expression.specs.Standing.{viewed, Lacks}
use Rattle.dm_state.specs.declared.full.Ongoing.{Ongoing}
use Rattle.dm_state.specs.declared.running.Running.{Running}
use Rattle.dm_state.specs.Fits.{OngoingFits}
use Rattle.dm_state.specs.Standing.{see, Fits}
use Rattle.dm_state.specs.Turns.{state_with}
use Rattle.dm_state.specs.Views.{front_locks, run_of}

-- the locks of the node's operands, and those behind it
abbrev pub own_locks : Expression Operand At → ℕ → List At
own_locks expression locks = take locks (drop (weight_in expression.row.0) expression.locks.items)

abbrev pub rest_locks : Expression Operand At → ℕ → List At
rest_locks expression locks = drop locks (drop (weight_in expression.row.0) expression.locks.items)

abbrev pub gap : Table → Expression Operand At → ℕ → Hole
gap table expression locks =
    hole_of (viewed (see table) table (front_locks expression) expression.row.0) (viewed (see table) table (rest_locks expression locks) expression.row.1)

pub record IsLacking (table : Table) (expression : Expression Operand At) (locks : ℕ) : Type 0 where
  pub lacks : Lacks (see table) table expression.row (front_locks expression) (rest_locks expression locks) (gap table expression locks)
  pub fits : Fits table expression

-- it goes on with this tree
pub record GoesOn (table : Table) (before next : Ongoing) (run : Run) : Type 0 where
  pub place : next.place ≡ before.place
  pub use_of : next.use_of ≡ before.use_of
  pub same : run_of table next.expression ≡ run
  pub fits : OngoingFits table next

-- the state in which these things are left to do, and the world is this one
abbrev pub state_before : Table → List states.Task → World → Running → states.State
state_before table tasks world running = record (state_with table tasks running) { world = world }
