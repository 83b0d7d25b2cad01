-- The value computation of a tree under evaluation that neither stores nor calls (5.1.2.3p2): the same in every order of evaluation, beside
-- any locks that it doesn't meet.
--     Computed      a result, and the places that are still read on the way to it
--     computed scene world run      what a tree comes to, if its evaluation is defined beside no locks
--     IsPure run      nothing in the tree stores or calls
use Rattle.std.specs.Prelude.{◌≡◌, ℕ, zero, suc, Bool, true, false, List, [], ◌∷◌, ◌++◌, Option, Some, None, pos, if◌then◌else◌}
use Rattle.dm_type.specs.CTypes.{CType, void}
use Rattle.dm_tree.specs.Trees.{Label, read, both, either, choose, comma, store, update, count, call, sizeof_tree}
use Rattle.dm_meaning.specs.Values.{At, unset}
use Rattle.dm_meaning.specs.Memory.{Memory}
use Rattle.dm_meaning.specs.Programs.{layout}
use Rattle.dm_meaning.specs.Operations.{Result, of_value, designates, Operand, World, Scene, Did, gives, breaks, ends_with, Truth, holds, untold, truth_of, truth_in, number_alone, operate}
use Rattle.dm_meaning.specs.Running.{Doing, evaluates, gives_truth, gives_value, Run, done, to_do, Runs, no_runs, more_runs, Open, first_open, others_open, open_parts}
use Rattle.dm_meaning.specs.Expressions.{value_of, kind_of_run}

pub record Computed : Type 0 where
  pub result : Result
  pub reads : List At

-- the operands of a node that are evaluated, and the places that are still read in them
pub record ComputedParts : Type 0 where
  pub operands : List Operand
  pub reads : List At

-- a tree below a node: its type, and what it comes to
abbrev pub Part : Type 0
Part = CType × Option Computed

-- ---- operands

abbrev pub joined : CType → Option Computed → Option ComputedParts → Option ComputedParts
joined kind None rest = None
joined kind (Some first) None = None
joined kind (Some first) (Some rest) =
    Some (record { operands = record { kind = kind; result = first.result } ∷ rest.operands; reads = first.reads ++ rest.reads })

abbrev pub joined_if : Bool → CType → Option Computed → Option ComputedParts → Option ComputedParts
joined_if true kind first rest = joined kind first rest
joined_if false kind first rest = rest

-- ---- one node

abbrev pub after_reads : List At → Option Computed → Option Computed
after_reads reads None = None
after_reads reads (Some found) = Some (record { result = found.result; reads = reads ++ found.reads })

abbrev pub alone : Result → Option Computed
alone result = Some (record { result = result; reads = [] })

-- where the node locks nothing
abbrev pub given_by : List At → Did → Option Computed
given_by reads (gives world result []) = Some (record { result = result; reads = reads })
given_by reads (gives world result (lock ∷ locks)) = None
given_by reads (breaks cause) = None
given_by reads (ends_with status) = None

abbrev pub on_alone : List Operand → (Operand → Option Computed) → Option Computed
on_alone (a ∷ []) next = next a
on_alone others next = None

abbrev pub by_holds : Truth → (Bool → Option Computed) → Option Computed
by_holds (holds truth) next = next truth
by_holds (untold cause) next = None

abbrev pub after_operands : Option ComputedParts → (List Operand → Option Computed) → Option Computed
after_operands None next = None
after_operands (Some found) next = after_reads found.reads (next found.operands)

-- the place that the node itself reads
abbrev pub place_of : Result → List At
place_of (of_value value) = []
place_of (designates at) = at ∷ []

abbrev pub place_in : List Operand → List At
place_in (a ∷ []) = place_of a.result
place_in others = []

abbrev pub read_here : Label → List Operand → List At
read_here read operands = place_in operands
read_here label operands = []

-- the truth, or the value, of the one operand that was picked
abbrev pub truth_computed : Memory → CType → Option ComputedParts → Option Computed
truth_computed memory kind found =
    after_operands found (λ operands. on_alone operands (λ a. by_holds (truth_of memory (value_of a.result)) (λ truth. alone (of_value (truth_in kind truth)))))

abbrev pub value_computed : Option ComputedParts → Option Computed
value_computed found = after_operands found (λ operands. on_alone operands (λ a. alone a.result))

-- what stands for an operand that a node lacks doesn't matter
abbrev pub nth_computed : ℕ → List Part → Part
nth_computed n [] = (void, Some (record { result = of_value unset; reads = [] }))
nth_computed zero (first ∷ rest) = first
nth_computed (suc n) (first ∷ rest) = nth_computed n rest

abbrev pub only : Part → Option ComputedParts
only part = joined part.0 part.1 (Some (record { operands = []; reads = [] }))

abbrev pub both_computed : Memory → CType → List Part → Bool → Option Computed
both_computed memory kind parts true = truth_computed memory kind (only (nth_computed 1 parts))
both_computed memory kind parts false = alone (of_value (truth_in kind false))

abbrev pub either_computed : Memory → CType → List Part → Bool → Option Computed
either_computed memory kind parts true = alone (of_value (truth_in kind true))
either_computed memory kind parts false = truth_computed memory kind (only (nth_computed 1 parts))

abbrev pub picked_computed : List Part → Bool → Option Computed
picked_computed parts truth = value_computed (only (nth_computed (if truth then 1 else 2) parts))

abbrev pub by_first : Memory → List Operand → (Bool → Option Computed) → Option Computed
by_first memory operands next = on_alone operands (λ a. by_holds (truth_of memory (value_of a.result)) next)

abbrev pub form_computed : Scene → World → Label → CType → List Part → List Operand → Option Computed
form_computed scene world both kind parts operands = by_first world.memory operands (both_computed world.memory kind parts)
form_computed scene world either kind parts operands = by_first world.memory operands (either_computed world.memory kind parts)
form_computed scene world choose kind parts operands = by_first world.memory operands (picked_computed parts)
form_computed scene world comma kind parts operands = value_computed (only (nth_computed 1 parts))
form_computed scene world call kind parts operands = None
form_computed scene world sizeof_tree kind parts operands =
    given_by [] (number_alone world kind (pos ((layout scene.program).size (nth_computed 0 parts).0)))
form_computed scene world label kind parts operands = given_by (read_here label operands) (operate scene world [] label kind operands)

-- the operands are those that the node's form lets be evaluated
abbrev pub node_computed : Scene → World → Doing → CType → List Part → Option ComputedParts → Option Computed
node_computed scene world (evaluates label) kind parts found = after_operands found (form_computed scene world label kind parts)
node_computed scene world gives_truth kind parts found = truth_computed world.memory kind found
node_computed scene world gives_value kind parts found = value_computed found

-- ---- trees

abbrev pub found_in : Open → List Part → Option ComputedParts
found_in opens [] = Some (record { operands = []; reads = [] })
found_in opens (first ∷ rest) = joined_if (first_open opens) first.0 first.1 (found_in (others_open opens) rest)

abbrev mutual
  pub computed : Scene → World → Run → Option Computed
  computed scene world (done kind result locks) = alone result
  computed scene world (to_do doing kind place parts) =
      node_computed scene world doing kind (all_computed scene world parts) (found_in (open_parts doing) (all_computed scene world parts))

  pub all_computed : Scene → World → Runs → List Part
  all_computed scene world no_runs = []
  all_computed scene world (more_runs first rest) = (kind_of_run first, computed scene world first) ∷ all_computed scene world rest

-- ---- trees that neither store nor call

abbrev pub is_pure_label : Label → Bool
is_pure_label store = false
is_pure_label (update op works) = false
is_pure_label (count plus before) = false
is_pure_label call = false
is_pure_label label = true

abbrev pub is_pure_doing : Doing → Bool
is_pure_doing (evaluates label) = is_pure_label label
is_pure_doing gives_truth = true
is_pure_doing gives_value = true

abbrev mutual
  -- nothing in the tree stores or calls, and nothing is locked
  pub IsPure : Run → Type 0
  IsPure (done kind result locks) = locks ≡ []
  IsPure (to_do doing kind place parts) = (is_pure_doing doing ≡ true) × ArePure parts

  pub ArePure : Runs → Type 0
  ArePure no_runs = Unit {0}
  ArePure (more_runs first rest) = IsPure first × ArePure rest
