-- Full expressions in which a node's step was put in its place.
use Rattle.std.proofs.Common.{◌≡◌, ℕ, ◌+◌, ◌≤◌, List, [], ◌∷◌, ◌++◌, length, map, Option, Some, None, IsTrue, refl, sym, ap, ap₂, subst, ◌∙◌, arith, ltb-true}
use Rattle.std.proofs.lemmas.Bool.{and_parts}
use Rattle.std.proofs.lemmas.List.{length-append, take-append-drop}
use Rattle.std.specs.declared.alloc.Global.{Global}
use Rattle.std.specs.declared.vec.Vec.{Vec}
use Rattle.dm_token.specs.declared.place.Place.{Place}
use Rattle.dm_type.specs.CTypes.{CType}
use Rattle.dm_type.specs.Tables.{Table, IsId, type_of}
use Rattle.dm_tree.specs.declared.tree.Core.{Core, out-Core}
use Rattle.dm_tree.specs.Trees.{kind_of, spans_of}
use Rattle.dm_tree.specs.TypeNumbers.{are_known}
use Rattle.dm_tree.specs.Views.{view}
use Rattle.dm_tree.proofs.ViewLemmas.{are_known-core, view-core}
use Rattle.dm_meaning.specs.Choices.{in_order}
use Rattle.dm_meaning.specs.Expressions.{calls, going_on, lifted}
use Rattle.dm_meaning.specs.Operations.{World}
use Rattle.dm_meaning.specs.Programs.{Definition, Program, definition_of}
use Rattle.dm_meaning.specs.Running.{Doing, Run, Hole, begun, done, every, filled_in, gives_truth, gives_value, hole_in, here, open_parts}
use Rattle.dm_meaning.specs.States as states
use Rattle.dm_meaning.specs.Steps.{moved, opened}
use Rattle.dm_meaning.specs.Values as values
use Rattle.dm_value.specs.declared.place.At.{At}
use Rattle.dm_value.specs.Places.{view_of_at}
use Rattle.dm_operate.specs.declared.evaluation.Operand.{Operand}
use Rattle.dm_operate.specs.Evaluations.{view_of_evaluation, view_of_lock}
use Rattle.dm_memory.specs.Blocks.{view_of_blocks}
use Rattle.dm_row.specs.Counts.{weight_in}
use Rattle.dm_row.specs.declared.item.Item.{Item}
use Rattle.dm_row.specs.declared.item.Item.TheVariants.{Done, Waits}
use Rattle.dm_postfix.specs.Postfix as postfix
use Rattle.dm_postfix.specs.Postfix.{node_of, no_slots, operand}
use Rattle.dm_postfix.proofs.HoleLemmas.{hole_in-here}
use Rattle.dm_expression.specs.declared.expression.Expression.{Expression}
use Rattle.dm_expression.specs.declared.waiting.Doing.TheVariants.{GivesTruth, GivesValue}
use Rattle.dm_expression.specs.declared.waiting.Waiting.{Waiting}
use Rattle.dm_expression.specs.Given.{lock_list, with_lock, without}
use Rattle.dm_expression.specs.Standing.{Stands}
use Rattle.dm_expression.specs.Waiting.{view_of_waiting, waiting_of, AreWaiting, AreWaitingExpressions, AreWaitingKnown, IsPut}
use Rattle.dm_expression.proofs.LeaveLemmas.{locks-given, locks-released, own-size}
use Rattle.dm_expression.proofs.StandLemmas.{given, picked, waiting-truth, waiting-value}
use Rattle.dm_frame.specs.declared.task.Use.{Use}
use Rattle.dm_frame.specs.Tasks.{view_of_use, ExpressionFits, UseFits}
use Rattle.dm_state.specs.declared.full.Ongoing.{Ongoing}
use Rattle.dm_state.specs.declared.running.Running.{Running}
use Rattle.dm_state.specs.Standing.{see, world_of, AreFit, Fits, IsUnder}
use Rattle.dm_state.specs.Turns.{state_with}
use Rattle.dm_state.specs.Views.{front_locks, hole_in_one}
use Rattle.dm_state.proofs.FitLemmas.{fit-both, fit-first, fit-second, run-under}
use Rattle.dm_move.specs.Settling.{gap, own_locks, rest_locks, state_before, GoesOn, IsLacking}

abbrev pub Both : Type 0
Both = List (Item Operand Waiting) × List (Item Operand Waiting)

pub goes-on : (table : Table) (before : Ongoing) (expression : Expression Operand At) (run : Run) → UseFits table before.use_of → IsUnder table expression run → Fits table expression
    → GoesOn table before (record { place = before.place; expression = expression; use_of = before.use_of }) run
goes-on table before expression run use_fits under fits = record {
  place = refl;
  use_of = refl;
  same = run-under table expression run under;
  fits = record { run = run; under = under; fits = fits; use_fits = use_fits };
}

-- ---- locks

seen-lock : (lock : Option At) (own : List At) → map view_of_at (lock_list lock ++ own) ≡ view_of_lock lock ++ map view_of_at own
seen-lock None own = refl
seen-lock (Some at) own = refl

-- ---- nodes that were put fit

fit-put : (table : Table) (put : List (Item Operand Waiting)) (others : List postfix.Item) → AreWaiting table put others → AreWaitingKnown (length table.shapes) put
    → ((types : Table) → AreWaitingExpressions types put) → AreFit table put
fit-put table [] others waits known expressions = tt
fit-put table (Done result weight ∷ put) [] waits known expressions = absurd waits
fit-put table (Done result weight ∷ put) (other ∷ others) waits known expressions = absurd waits
fit-put table (Waits one count ∷ put) [] waits known expressions = absurd waits
fit-put table (Waits one count ∷ put) (postfix.evaluated other ∷ others) waits known expressions = absurd waits
fit-put table (Waits one count ∷ put) (postfix.waiting other ∷ others) waits known expressions =
    (known.0, λ types. (expressions types).0, fit-put table put others waits.2 known.1 (λ types. (expressions types).1))

-- ---- the expression

module _ (table : Table) (before : Expression Operand At) (locks : ℕ) (room : weight_in before.row.0 + locks ≤ length before.locks.items) (lacking : IsLacking table before locks) where
  abbrev front : List At
  front = front_locks before

  abbrev own : List At
  own = own_locks before locks

  abbrev rest : List At
  rest = rest_locks before locks

  abbrev given-row : Operand → ℕ → Both
  given-row one weight = (before.row.0 ++ Done one weight ∷ [], before.row.1)

  fits-row : (one : Operand) (weight : ℕ) → IsId table one.kind → AreFit table ((given-row one weight).0 ++ (given-row one weight).1)
  fits-row one weight is_type =
      fit-both table (before.row.0 ++ Done one weight ∷ []) before.row.1
      (fit-both table before.row.0 (Done one weight ∷ []) (fit-first table before.row.0 before.row.1 lacking.fits) (is_type, tt)) (fit-second table before.row.0 before.row.1 lacking.fits)

  pub fits-given : (after : Expression Operand At) (one : Operand) (weight : ℕ) → IsId table one.kind → after.row ≡ given-row one weight → Fits table after
  fits-given after one weight is_type row = subst (λ (row : Both). AreFit table (row.0 ++ row.1)) (sym row) (fits-row one weight is_type)

  -- a result with the locks of the operands
  pub stands-given : (after : Expression Operand At) (one : Operand) (lock : Option At) → after.row ≡ given-row one (locks + length (lock_list lock))
      → after.locks.items ≡ with_lock (weight_in before.row.0) lock before.locks.items
      → IsUnder table after (filled_in (gap table before locks) (done (type_of table one.kind) (view_of_evaluation one.result) (view_of_lock lock ++ map view_of_at own)))
  stands-given after one lock row held =
      let size = length-append (lock_list lock) own in
      let as_many = own-size (weight_in before.row.0) locks before.locks.items room in
      let run = λ (all : List values.At). filled_in (gap table before locks) (done (type_of table one.kind) (view_of_evaluation one.result) all) in
      subst (λ (row : Both). Stands (see table) table row after.locks.items (run (view_of_lock lock ++ map view_of_at own))) (sym row)
      (subst (λ (l : List At). Stands (see table) table (given-row one (locks + length (lock_list lock))) l (run (view_of_lock lock ++ map view_of_at own)))
      (sym (held ∙ locks-given (weight_in before.row.0) locks before.locks.items room lock))
      (subst (λ (all : List values.At). Stands (see table) table (given-row one (locks + length (lock_list lock))) (front ++ ((lock_list lock ++ own) ++ rest)) (run all)) (seen-lock lock own)
      (given (see table) table before.row front (lock_list lock ++ own) rest (gap table before locks) one (locks + length (lock_list lock)) lacking.lacks (omega (arith, size, as_many)))))

  -- the locks of the operands are gone
  pub released : (middle : Expression Operand At) → middle.locks.items ≡ without (weight_in before.row.0) locks before.locks.items → middle.locks.items ≡ front ++ rest
  released middle held = held ∙ locks-released (weight_in before.row.0) locks before.locks.items room

  -- a result without locks
  pub stands-unlocked : (middle after : Expression Operand At) (one : Operand) → middle.row ≡ before.row → middle.locks.items ≡ without (weight_in before.row.0) locks before.locks.items
      → after.row ≡ (middle.row.0 ++ Done one 0 ∷ [], middle.row.1) → after.locks.items ≡ with_lock (weight_in middle.row.0) None middle.locks.items
      → IsUnder table after (filled_in (gap table before locks) (done (type_of table one.kind) (view_of_evaluation one.result) []))
  stands-unlocked middle after one middle_row held row left =
      let run = filled_in (gap table before locks) (done (type_of table one.kind) (view_of_evaluation one.result) []) in
      subst (λ (row : Both). Stands (see table) table row after.locks.items run) (sym (row ∙ ap (λ (row : Both). (row.0 ++ Done one 0 ∷ [], row.1)) middle_row))
      (subst (λ (l : List At). Stands (see table) table (given-row one 0) l run)
      (sym (left ∙ (take-append-drop (weight_in middle.row.0) middle.locks.items ∙ released middle held)))
      (given (see table) table before.row front [] rest (gap table before locks) one 0 lacking.lacks refl))

  pub fits-unlocked : (middle after : Expression Operand At) (one : Operand) → IsId table one.kind → middle.row ≡ before.row → after.row ≡ (middle.row.0 ++ Done one 0 ∷ [], middle.row.1) → Fits table after
  fits-unlocked middle after one is_type middle_row row = fits-given after one 0 is_type (row ∙ ap (λ (row : Both). (row.0 ++ Done one 0 ∷ [], row.1)) middle_row)

  abbrev put-in : Waiting → Both → Both
  put-in outer row = (row.0, Waits outer 1 ∷ row.1)

  -- an operand that was chosen
  pub stands-picked : (middle after : Expression Operand At) (outer : Waiting) (inner : Core) (doing : Doing) (kind : CType) (place : Place) → open_parts doing ≡ every
      → view_of_waiting table outer ≡ node_of doing kind place (operand no_slots) → middle.row ≡ before.row → middle.locks.items ≡ without (weight_in before.row.0) locks before.locks.items
      → IsPut inner (put-in outer middle.row) after.row → after.locks ≡ middle.locks
      → IsUnder table after (filled_in (gap table before locks) (going_on doing kind place (begun (view table inner))))
  stands-picked middle after outer inner doing kind place opens is middle_row held put left =
      let run = filled_in (gap table before locks) (going_on doing kind place (begun (view table inner))) in
      subst (λ (l : List At). Stands (see table) table after.row l run) (sym (ap (λ (l : Vec At Global). l.items) left ∙ released middle held))
      (picked (see table) table before.row after.row front rest (gap table before locks) outer inner doing kind place opens is lacking.lacks
      (subst (λ (row : Both). IsPut inner (put-in outer row) after.row) middle_row put))

  pub fits-picked : (middle after : Expression Operand At) (outer : Waiting) (inner : Core) → ExpressionFits table outer.node.now → ExpressionFits table inner → middle.row ≡ before.row
      → IsPut inner (put-in outer middle.row) after.row → Fits table after
  fits-picked middle after outer inner outer_fits inner_fits middle_row put =
      let waits = put.waits table in
      let known = put.known (length table.shapes) inner_fits.0 in
      let here = fit-put table put.put waits.0 waits.2 known.1 put.nodes in
      let behind = fit-both table put.put (Waits outer 1 ∷ before.row.1) here (outer_fits.0, outer_fits.1, fit-second table before.row.0 before.row.1 lacking.fits) in
      subst (λ (row : Both). AreFit table (row.0 ++ row.1)) (sym (whole put))
      (fit-both table before.row.0 (put.put ++ Waits outer 1 ∷ before.row.1) (fit-first table before.row.0 before.row.1 lacking.fits) behind)
    where
      whole : (put : IsPut inner (put-in outer middle.row) after.row) → after.row ≡ (before.row.0, put.put ++ Waits outer 1 ∷ before.row.1)
      whole put =
          ap₂ (λ (xs ys : List (Item Operand Waiting)). (xs, ys)) (put.in_front ∙ ap (λ (row : Both). row.0) middle_row)
          (put.behind ∙ ap (λ (row : Both). put.put ++ Waits outer 1 ∷ row.1) middle_row)

-- ---- the nodes that wait for the operand that was chosen

waiting-place : (table : Table) (core : Core) → (spans_of (view table core)).place ≡ (out-Core core).place
waiting-place table core = ap (λ tree. (spans_of tree).place) (view-core table core)

waiting-kind : (table : Table) (core : Core) → kind_of (view table core) ≡ type_of table (out-Core core).kind
waiting-kind table core = ap kind_of (view-core table core)

pub waits-truth : (table : Table) (core : Core) → waiting_of GivesTruth (view table core) ≡ node_of gives_truth (type_of table (out-Core core).kind) (out-Core core).place (operand no_slots)
waits-truth table core = waiting-truth (view table core) ∙ ap₂ (λ kind place. node_of gives_truth kind place (operand no_slots)) (waiting-kind table core) (waiting-place table core)

pub waits-value : (table : Table) (core : Core) → waiting_of GivesValue (view table core) ≡ node_of gives_value (type_of table (out-Core core).kind) (out-Core core).place (operand no_slots)
waits-value table core = waiting-value (view table core) ∙ ap₂ (λ kind place. node_of gives_value kind place (operand no_slots)) (waiting-kind table core) (waiting-place table core)

-- the type of a node is one of the table
pub known-kind : (table : Table) (core : Core) → IsTrue (are_known (length table.shapes) core) → IsId table (out-Core core).kind
known-kind table core h = ltb-true (out-Core core).kind (length table.shapes) (and_parts _ _ (sym (are_known-core (length table.shapes) core) ∙ h)).0

-- ---- calls

abbrev opened-with : Table → Program → Running → List states.Task → List states.Task → CType → List values.Value → World → Place → Use → Hole → Option Definition → states.State
opened-with table program running tasks rest kind arguments world place use_of hole found =
    opened program (in_order world.memory) (state_before table tasks world running) rest place (view_of_use table use_of) kind hole arguments found

-- a call, from what is left of the expression
pub same-opened : (table : Table) (program : Program) (running : Running) (tasks rest : List states.Task) (before : World) (one next : Ongoing) (kind : CType) (hole : Hole)
    (function : ℕ) (arguments : List values.Value) (definition : Definition)
    → world_of table running.blocks running.streams ≡ before → next.place ≡ one.place → next.use_of ≡ one.use_of → hole_in_one table next.expression ≡ hole → definition_of program function ≡ Some definition
    → opened program (in_order (view_of_blocks table running.blocks)) (state_with table tasks running) rest next.place (view_of_use table next.use_of) kind (hole_in_one table next.expression) arguments (Some definition)
    ≡ moved program (in_order before.memory) (state_before table tasks before running) rest one.place (view_of_use table one.use_of) (lifted (filled_in hole) (hole_in hole) (calls function arguments kind here))
same-opened table program running tasks rest before one next kind hole function arguments definition keeps place use_of left defined =
    ap (λ (world : World). opened-with table program running tasks rest kind arguments world next.place next.use_of (hole_in_one table next.expression) (Some definition)) keeps
    ∙ (ap (λ (place : Place). opened-with table program running tasks rest kind arguments before place next.use_of (hole_in_one table next.expression) (Some definition)) place
    ∙ (ap (λ (use_of : Use). opened-with table program running tasks rest kind arguments before one.place use_of (hole_in_one table next.expression) (Some definition)) use_of
    ∙ (ap (λ (hole : Hole). opened-with table program running tasks rest kind arguments before one.place one.use_of hole (Some definition)) (left ∙ sym (hole_in-here hole))
    ∙ ap (λ (found : Option Definition). opened-with table program running tasks rest kind arguments before one.place one.use_of (hole_in hole here) found) (sym defined))))
