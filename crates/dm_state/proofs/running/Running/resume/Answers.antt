-- The value stands where the call was.
use Rattle.std.proofs.Common.{◌≡◌, List, [], ◌∷◌, ◌++◌, refl, ap, sym, subst}
use Rattle.dm_type.specs.Tables.{Table, type_of}
use Rattle.dm_meaning.specs.Operations.{of_value}
use Rattle.dm_meaning.specs.Running.{Run, done, filled_in}
use Rattle.dm_meaning.specs.States as states
use Rattle.dm_value.specs.declared.place.At.{At}
use Rattle.dm_value.specs.declared.value.Value.{Value}
use Rattle.dm_value.specs.Views.{view_of_value}
use Rattle.dm_operate.specs.declared.evaluation.Evaluation.TheVariants as evaluation
use Rattle.dm_operate.specs.declared.evaluation.Operand.{Operand}
use Rattle.dm_row.specs.declared.item.Item.{Item}
use Rattle.dm_row.specs.declared.item.Item.TheVariants.{Done}
use Rattle.dm_expression.specs.declared.expression.Expression.{Expression}
use Rattle.dm_expression.specs.declared.waiting.Waiting.{Waiting}
use Rattle.dm_expression.specs.Standing.{Stands}
use Rattle.dm_expression.proofs.StandLemmas.{given}
use Rattle.dm_frame.specs.Frames.{tasks_of}
use Rattle.dm_frame.specs.Tasks.{view_of_use}
use Rattle.dm_state.specs.declared.running.Caller.{Caller}
use Rattle.dm_state.specs.Fits.{CallerFits}
use Rattle.dm_state.specs.Standing.{see, AreFit, Fits, IsUnder}
use Rattle.dm_state.specs.Views.{back_locks, front_locks, hole_in_one}
use Rattle.dm_state.proofs.FitLemmas.{fit-both, fit-first, fit-second, run-under}
use Rattle.dm_state.proofs.running.Running.resume.Goals as goal

-- the tree with the value
abbrev valued : Table → Caller → Value → Run
valued table caller value = filled_in (hole_in_one table caller.expression) (done (type_of table caller.kind) (of_value (view_of_value value)) [])

abbrev operand : Caller → Value → Operand
operand caller value = record { kind = caller.kind; result = evaluation.Value value }

abbrev put_in : Caller → Value → List (Item Operand Waiting) × List (Item Operand Waiting)
put_in caller value = (caller.expression.row.0 ++ Done (operand caller value) 0 ∷ [], caller.expression.row.1)

stands-valued : (table : Table) (caller : Caller) (value : Value) (after : Expression Operand At) → CallerFits table caller → after.row ≡ put_in caller value
    → after.locks.items ≡ front_locks caller.expression ++ ([] ++ back_locks caller.expression) → IsUnder table after (valued table caller value)
stands-valued table caller value after fits row locks =
    subst (λ (row : List (Item Operand Waiting) × List (Item Operand Waiting)). Stands (see table) table row after.locks.items (valued table caller value)) (sym row)
    (subst (λ (l : List At). Stands (see table) table (put_in caller value) l (valued table caller value)) (sym locks)
    (given (see table) table caller.expression.row (front_locks caller.expression) [] (back_locks caller.expression) (hole_in_one table caller.expression) (operand caller value) 0 fits.lacks refl))

fits-valued : (table : Table) (caller : Caller) (value : Value) (after : Expression Operand At) → CallerFits table caller → after.row ≡ put_in caller value → Fits table after
fits-valued table caller value after fits row =
    let front = caller.expression.row.0 in
    let back = caller.expression.row.1 in
    subst (λ (row : List (Item Operand Waiting) × List (Item Operand Waiting)). AreFit table (row.0 ++ row.1)) (sym row)
    (fit-both table (front ++ Done (operand caller value) 0 ∷ []) back
    (fit-both table front (Done (operand caller value) 0 ∷ []) (fit-first table front back fits.fits) (fits.kind, tt)) (fit-second table front back fits.fits))

-- the frame that goes on with a tree
abbrev resumed-at : Table → Caller → Run → states.Frame
resumed-at table caller run = record {
  function = caller.frame.function;
  objects = caller.frame.objects;
  tasks = states.evaluates caller.place run (view_of_use table caller.use_of) ∷ tasks_of table caller.frame;
}

pub returns-clause-frame : goal.returns-clause-frame
returns-clause-frame c = λ table fits.
    let caller : Caller = c.args.caller in
    let after = c.give.new.self in
    ap (resumed-at table caller) (run-under table after (valued table caller c.args.value) (stands-valued table caller c.args.value after fits c.in_ok-give.ensures.row c.in_ok-give.ensures.locks))

pub returns-clause-fits : goal.returns-clause-fits
returns-clause-fits c = λ table fits.
    let caller : Caller = c.args.caller in
    let after = c.give.new.self in (
      fits.frame,
      record {
        run = valued table caller c.args.value;
        under = stands-valued table caller c.args.value after fits c.in_ok-give.ensures.row c.in_ok-give.ensures.locks;
        fits = fits-valued table caller c.args.value after fits c.in_ok-give.ensures.row;
        use_fits = fits.use_fits;
      },
    )
