-- The steps of an expression (6.5p2, p3): which nodes may be evaluated next, from the left, and what each of them does.
--     Move      what a step may be: it goes on with a tree, calls a function, is undefined, or ends the program
--     moves scene world locks run      the steps of a tree, beside these locks of its frame
use Rattle.std.specs.Prelude.{ℕ, zero, suc, Bool, true, false, List, [], ◌∷◌, ◌++◌, map, Option, Some, None, pos, if◌then◌else◌}
use Rattle.dm_token.specs.declared.place.Place.{Place}
use Rattle.dm_type.specs.CTypes.{CType, void}
use Rattle.dm_tree.specs.Trees.{Label, function, both, either, choose, comma, call, sizeof_tree}
use Rattle.dm_tree.specs.Units.{Declaration}
use Rattle.dm_meaning.specs.declared.cause.Cause.{Cause}
use Rattle.dm_meaning.specs.declared.cause.Cause.TheVariants.{OtherType, External}
use Rattle.dm_meaning.specs.Values.{At, Value, unset}
use Rattle.dm_meaning.specs.Primitives.{Prim, Answer, answers, stops, refuses}
use Rattle.dm_meaning.specs.Programs.{layout, Definition, declaration_of, definition_of}
use Rattle.dm_meaning.specs.Operations.{Result, of_value, designates, Operand, World, Scene, Did, gives, breaks, ends_with, number_alone, truth_in, Truth, holds, untold, truth_of, operate}
use Rattle.dm_meaning.specs.Running.{Doing, evaluates, gives_truth, gives_value, Run, done, to_do, Runs, no_runs, more_runs, locks_in_all, Open, first_open, others_open, open_parts, operands_in, Hole, here, within, Holes, in_first, in_others}

-- A step of a tree, or of the trees below a node, where `T` is what it leaves and `H` such with a part left out.
pub data Move (T H : Type 0) : Type 0 where
  goes : World → T → Move T H
  -- a function is called with these values; what is left out is the call, which has this type
  calls : ℕ → List Value → CType → H → Move T H
  -- undefined, at a place
  fails : Cause → Place → Move T H
  exits : ℕ → Move T H

-- a step of a part is one of what it is a part of
abbrev pub lifted : {T H U G : Type 0} → (T → U) → (H → G) → Move T H → Move U G
lifted tree hole (goes world t) = goes world (tree t)
lifted tree hole (calls f arguments kind h) = calls f arguments kind (hole h)
lifted tree hole (fails cause place) = fails cause place
lifted tree hole (exits status) = exits status

-- ---- the step of one node

-- what it did, as a step: the result keeps the locks of the operands
abbrev pub as_move : CType → Place → List At → Did → Move Run Hole
as_move kind place locks (gives world result new) = goes world (done kind result (new ++ locks))
as_move kind place locks (breaks cause) = fails cause place
as_move kind place locks (ends_with status) = exits status

-- a result without locks
abbrev pub unlocked : CType → Value → Run
unlocked kind value = done kind (of_value value) []

-- goes on with what a truth chooses
abbrev pub by_truth : World → Place → Truth → (Bool → Run) → Move Run Hole
by_truth world place (holds truth) next = goes world (next truth)
by_truth world place (untold cause) next = fails cause place

-- a step that no typed tree comes to
abbrev pub ill_move : Place → Move Run Hole
ill_move place = fails OtherType place

abbrev pub on_operand : Place → List Operand → (Operand → Move Run Hole) → Move Run Hole
on_operand place (a ∷ []) next = next a
on_operand place others next = ill_move place

-- a result's value, unset for an lvalue
abbrev pub value_of : Result → Value
value_of (of_value value) = value
value_of (designates at) = unset

-- the tree below a node that is evaluated next; what stands for it where it lacks one doesn't matter
abbrev pub nth_run : ℕ → Runs → Run
nth_run n no_runs = unlocked void unset
nth_run zero (more_runs first rest) = first
nth_run (suc n) (more_runs first rest) = nth_run n rest

-- the node goes on with one operand alone
abbrev pub going_on : Doing → CType → Place → Run → Run
going_on doing kind place run = to_do doing kind place (more_runs run no_runs)

-- && gives 0 where its first operand is false, and else goes on with the second (6.5.13p3, p4); || the other way round (6.5.14p3, p4)
abbrev pub both_chosen : CType → Place → Runs → Bool → Run
both_chosen kind place parts true = going_on gives_truth kind place (nth_run 1 parts)
both_chosen kind place parts false = unlocked kind (truth_in kind false)

abbrev pub either_chosen : CType → Place → Runs → Bool → Run
either_chosen kind place parts true = unlocked kind (truth_in kind true)
either_chosen kind place parts false = going_on gives_truth kind place (nth_run 1 parts)

-- ?: goes on with the second or the third operand (6.5.15p4)
abbrev pub operand_chosen : CType → Place → Runs → Bool → Run
operand_chosen kind place parts truth = going_on gives_value kind place (nth_run (if truth then 1 else 2) parts)

-- ---- calls (6.5.2.2)

-- the function that a call names
abbrev pub function_in : Doing → Option ℕ
function_in (evaluates (function d)) = Some d
function_in doing = None

abbrev pub function_named : Run → Option ℕ
function_named (done kind result locks) = None
function_named (to_do doing kind place parts) = function_in doing

abbrev pub answered : World → CType → Place → Option Answer → Move Run Hole
answered world kind place None = fails External place
answered world kind place (Some (answers value input output)) = goes (record world { input = input; output = output }) (unlocked kind value)
answered world kind place (Some (stops status)) = exits status
answered world kind place (Some (refuses cause)) = fails cause place

-- a function that isn't defined is one that the machine has, or none
abbrev pub undefined_called : Scene → World → CType → Place → List Value → Option Declaration → Move Run Hole
undefined_called scene world kind place arguments None = fails External place
undefined_called scene world kind place arguments (Some declaration) =
    answered world kind place (Prim declaration.name declaration.kind (layout scene.program) world.memory arguments world.input world.output)

abbrev pub called : Scene → World → CType → Place → List Value → ℕ → Option Definition → Move Run Hole
called scene world kind place arguments d (Some definition) = calls d arguments kind here
called scene world kind place arguments d None = undefined_called scene world kind place arguments (declaration_of scene.program d)

abbrev pub call_step : Scene → World → CType → Place → List Value → Option ℕ → Move Run Hole
call_step scene world kind place arguments None = ill_move place
call_step scene world kind place arguments (Some d) = called scene world kind place arguments d (definition_of scene.program d)

-- ---- nodes

abbrev pub kind_of_run : Run → CType
kind_of_run (done kind result locks) = kind
kind_of_run (to_do doing kind place parts) = kind

-- the step of a node whose operands are evaluated, by its form
abbrev pub form_step : Scene → World → List At → Label → CType → Place → Runs → List Operand → Move Run Hole
form_step scene world locks both kind place parts operands =
    on_operand place operands (λ a. by_truth world place (truth_of world.memory (value_of a.result)) (both_chosen kind place parts))
form_step scene world locks either kind place parts operands =
    on_operand place operands (λ a. by_truth world place (truth_of world.memory (value_of a.result)) (either_chosen kind place parts))
form_step scene world locks choose kind place parts operands =
    on_operand place operands (λ a. by_truth world place (truth_of world.memory (value_of a.result)) (operand_chosen kind place parts))
form_step scene world locks comma kind place parts operands = goes world (going_on gives_value kind place (nth_run 1 parts))
form_step scene world locks call kind place parts operands =
    call_step scene world kind place (map (λ a. value_of a.result) operands) (function_named (nth_run 0 parts))
form_step scene world locks sizeof_tree kind place parts operands =
    as_move kind place [] (number_alone world kind (pos ((layout scene.program).size (kind_of_run (nth_run 0 parts)))))
form_step scene world locks label kind place parts operands =
    as_move kind place (locks_in_all parts) (operate scene world locks label kind operands)

-- the step of a node whose operands are evaluated
abbrev pub node_step : Scene → World → List At → Doing → CType → Place → Runs → List Operand → Move Run Hole
node_step scene world locks (evaluates label) kind place parts operands = form_step scene world locks label kind place parts operands
node_step scene world locks gives_truth kind place parts operands =
    on_operand place operands (λ a. by_truth world place (truth_of world.memory (value_of a.result)) (λ truth. done kind (of_value (truth_in kind truth)) (locks_in_all parts)))
node_step scene world locks gives_value kind place parts operands =
    on_operand place operands (λ a. goes world (done kind a.result (locks_in_all parts)))

-- ---- all steps of a tree

-- the steps of a node: its own where its operands are evaluated, and else those of its operands
abbrev pub own_or_inner : {M : Type 0} → Option (List Operand) → (List Operand → M) → List M → List M
own_or_inner (Some operands) own inner = own operands ∷ []
own_or_inner None own inner = inner

abbrev pub where_open : {M : Type 0} → Bool → List M → List M
where_open true steps = steps
where_open false steps = []

abbrev mutual
  pub moves : Scene → World → List At → Run → List (Move Run Hole)
  moves scene world locks (done kind result own) = []
  moves scene world locks (to_do doing kind place parts) =
      own_or_inner (operands_in (open_parts doing) parts) (node_step scene world locks doing kind place parts)
      (map (lifted (to_do doing kind place) (within doing kind place)) (moves_in scene world locks (open_parts doing) parts))

  pub moves_in : Scene → World → List At → Open → Runs → List (Move Runs Holes)
  moves_in scene world locks opens no_runs = []
  moves_in scene world locks opens (more_runs first rest) =
      where_open (first_open opens) (map (lifted (λ run. more_runs run rest) (λ hole. in_first hole rest)) (moves scene world locks first))
      ++ map (lifted (more_runs first) (in_others first)) (moves_in scene world locks (others_open opens) rest)
