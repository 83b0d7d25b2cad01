-- A step leaves no tree standing that didn't stand there before: parts that aren't begun are begun, or dropped.
use Rattle.std.specs.Prelude.{◌≡◌, refl, ◌⊎◌, ℕ, zero, suc, Bool, true, false, List, [], ◌∷◌, map, Option, Some, None, if◌then◌else◌}
use Rattle.std.proofs.Common.{ap, sym, subst, inl, inr}
use Rattle.dm_token.specs.declared.place.Place.{Place}
use Rattle.dm_type.specs.CTypes.{CType}
use Rattle.dm_tree.specs.Trees.{Label, convert, both, either, choose, comma, call, sizeof_tree, sizeof_kind, Tree, Trees, node, no_trees, more_trees}
use Rattle.dm_tree.specs.Units.{Declaration}
use Rattle.dm_meaning.specs.Among.{IsAmong}
use Rattle.dm_meaning.specs.Values.{At, Value}
use Rattle.dm_meaning.specs.Programs.{Definition, definition_of, declaration_of, layout}
use Rattle.dm_meaning.specs.Primitives.{Answer, answers, stops, refuses, Prim}
use Rattle.dm_meaning.specs.Operations.{Result, of_value, Operand, World, Scene, Did, gives, breaks, ends_with, Truth, holds, untold, truth_of, operate, number_alone}
use Rattle.dm_meaning.specs.Running.{Doing, evaluates, gives_truth, gives_value, Run, done, to_do, Runs, no_runs, more_runs, begun, all_begun, Open, every, only_first, nothing, open_of, IsOpen, AreOpen, first_open, others_open, open_parts, operands_in, Hole, here, within, Holes, in_first, in_others, filled_in, all_filled_in, locks_in_all}
use Rattle.dm_meaning.specs.Expressions.{Move, goes, calls, fails, exits, lifted, as_move, by_truth, on_operand, answered, undefined_called, called, call_step, function_named, nth_run, value_of, both_chosen, either_chosen, operand_chosen, going_on, form_step, node_step, own_or_inner, where_open, moves, moves_in}
use Rattle.dm_meaning.proofs.AmongLemmas.{among_either, among-map_from}
use Rattle.dm_central.specs.Standing.{standing_of, standing_parts, StandsIn, StandsAmong, HasNoMore}

-- ---- trees that stand in others

pub stands_self : (run : Run) → StandsIn run run
stands_self (done kind result locks) = refl
stands_self (to_do doing kind place parts) = inl refl

mutual
  pub stands_within : (part run whole : Run) → StandsIn part run → StandsIn run whole → StandsIn part whole
  stands_within part run (done kind result locks) h k = subst (StandsIn part) (sym k) h
  stands_within part run (to_do doing kind place parts) h (inl k) = subst (StandsIn part) (sym k) h
  stands_within part run (to_do doing kind place parts) h (inr k) = inr (stands_among part run (standing_parts doing) parts h k)

  pub stands_among : (part run : Run) (stand : Open) (parts : Runs) → StandsIn part run → StandsAmong run stand parts → StandsAmong part stand parts
  stands_among part run stand no_runs h k = absurd k
  stands_among part run stand (more_runs first rest) h (inl k) = inl (k.0, stands_within part run first h k.1)
  stands_among part run stand (more_runs first rest) h (inr k) = inr (stands_among part run (others_open stand) rest h k)

-- the part in which a part is left out
abbrev hole_of : Holes → Hole
hole_of (in_first hole rest) = hole
hole_of (in_others first holes) = hole_of holes

-- what may be evaluated isn't in a type name
same_holes : (opens : Open) (holes : Holes) (run : Run) → AreOpen opens holes → (IsOpen (hole_of holes) → StandsIn run (filled_in (hole_of holes) run)) → StandsAmong run opens (all_filled_in holes run)
same_holes opens (in_first hole rest) run o one = inl (o.0, one o.1)
same_holes opens (in_others first holes) run o one = inr (same_holes (others_open opens) holes run o one)

every_hole : (opens : Open) (holes : Holes) (run : Run) → AreOpen opens holes → (IsOpen (hole_of holes) → StandsIn run (filled_in (hole_of holes) run)) → StandsAmong run every (all_filled_in holes run)
every_hole opens (in_first hole rest) run o one = inl (refl, one o.1)
every_hole opens (in_others first holes) run o one = inr (every_hole (others_open opens) holes run o one)

standing_holes : (doing : Doing) (holes : Holes) (run : Run) → AreOpen (open_parts doing) holes → (IsOpen (hole_of holes) → StandsIn run (filled_in (hole_of holes) run)) → StandsAmong run (standing_parts doing) (all_filled_in holes run)
standing_holes (evaluates convert) holes run o one = same_holes only_first holes run o one
standing_holes (evaluates (sizeof_kind type)) holes run o one = same_holes nothing holes run o one
standing_holes (evaluates label) holes run o one = every_hole (open_of label) holes run o one
standing_holes gives_truth holes run o one = every_hole every holes run o one
standing_holes gives_value holes run o one = every_hole every holes run o one

every_among : (part : Run) (opens : Open) (parts : Runs) → StandsAmong part opens parts → StandsAmong part every parts
every_among part opens no_runs h = absurd h
every_among part opens (more_runs first rest) (inl h) = inl (refl, h.1)
every_among part opens (more_runs first rest) (inr h) = inr (every_among part (others_open opens) rest h)

pub open_stands : (part : Run) (doing : Doing) (parts : Runs) → StandsAmong part (open_parts doing) parts → StandsAmong part (standing_parts doing) parts
open_stands part (evaluates convert) parts h = h
open_stands part (evaluates (sizeof_kind type)) parts h = h
open_stands part (evaluates label) parts h = every_among part (open_of label) parts h
open_stands part gives_truth parts h = h
open_stands part gives_value parts h = h

mutual
  pub stands_filled : (hole : Hole) (run : Run) → IsOpen hole → StandsIn run (filled_in hole run)
  stands_filled here run o = stands_self run
  stands_filled (within doing kind place holes) run o = inr (standing_holes doing holes run o (stand_filled holes run))

  stand_filled : (holes : Holes) (run : Run) → IsOpen (hole_of holes) → StandsIn run (filled_in (hole_of holes) run)
  stand_filled (in_first hole rest) run o = stands_filled hole run o
  stand_filled (in_others first holes) run o = stand_filled holes run o

-- ---- what isn't begun

-- nothing of it is evaluated
abbrev IsBegun : Run → Type 0
IsBegun run = (tree : Tree) × (run ≡ begun tree)

abbrev AreBegun : Runs → Type 0
AreBegun runs = (trees : Trees) × (runs ≡ all_begun trees)

abbrev doing_in : Run → Doing
doing_in (done kind result locks) = gives_value
doing_in (to_do doing kind place parts) = doing

abbrev parts_in : Run → Runs
parts_in (done kind result locks) = no_runs
parts_in (to_do doing kind place parts) = parts

abbrev first_in : Run → Runs → Run
first_in other no_runs = other
first_in other (more_runs first rest) = first

abbrev rest_in : Runs → Runs
rest_in no_runs = no_runs
rest_in (more_runs first rest) = rest

result_begun : (kind : CType) (result : Result) (locks : List At) → IsBegun (done kind result locks) → ⊥
result_begun kind result locks (node label type spans parts, e) = cc

truth_begun : (kind : CType) (place : Place) (parts : Runs) → IsBegun (to_do gives_truth kind place parts) → ⊥
truth_begun kind place parts (node label type spans trees, e) = cc (ap doing_in e)

value_begun : (kind : CType) (place : Place) (parts : Runs) → IsBegun (to_do gives_value kind place parts) → ⊥
value_begun kind place parts (node label type spans trees, e) = cc (ap doing_in e)

parts_begun : (doing : Doing) (kind : CType) (place : Place) (parts : Runs) → IsBegun (to_do doing kind place parts) → AreBegun parts
parts_begun doing kind place parts (node label type spans trees, e) = (trees, ap parts_in e)

first_begun : (first : Run) (rest : Runs) → AreBegun (more_runs first rest) → IsBegun first
first_begun first rest (no_trees, e) = absurd (cc)
first_begun first rest (more_trees tree trees, e) = (tree, ap (first_in first) e)

rest_begun : (first : Run) (rest : Runs) → AreBegun (more_runs first rest) → AreBegun rest
rest_begun first rest (no_trees, e) = absurd (cc)
rest_begun first rest (more_trees tree trees, e) = (trees, ap rest_in e)

-- ---- with a result in the place of a part

mutual
  filled_begun : (hole : Hole) (kind : CType) (result : Result) (locks : List At) → IsBegun (filled_in hole (done kind result locks)) → ⊥
  filled_begun here kind result locks b = result_begun kind result locks b
  filled_begun (within doing own place holes) kind result locks b = all_filled_begun holes kind result locks (parts_begun doing own place (all_filled_in holes (done kind result locks)) b)

  all_filled_begun : (holes : Holes) (kind : CType) (result : Result) (locks : List At) → AreBegun (all_filled_in holes (done kind result locks)) → ⊥
  all_filled_begun (in_first hole rest) kind result locks b = filled_begun hole kind result locks (first_begun (filled_in hole (done kind result locks)) rest b)
  all_filled_begun (in_others first holes) kind result locks b = all_filled_begun holes kind result locks (rest_begun first (all_filled_in holes (done kind result locks)) b)

mutual
  -- what stands there then stood there before
  pub result_no_more : (hole : Hole) (run : Run) (kind : CType) (result : Result) (locks : List At) → HasNoMore (filled_in hole (done kind result locks)) (filled_in hole run)
  result_no_more here run kind result locks tree h = absurd (result_begun kind result locks (tree, h))
  result_no_more (within doing own place holes) run kind result locks tree (inl e) = absurd (filled_begun (within doing own place holes) kind result locks (tree, e))
  result_no_more (within doing own place holes) run kind result locks tree (inr h) = inr (all_filled_no_more (standing_parts doing) holes run kind result locks tree h)

  all_filled_no_more : (stand : Open) (holes : Holes) (run : Run) (kind : CType) (result : Result) (locks : List At) (tree : Tree) → StandsAmong (begun tree) stand (all_filled_in holes (done kind result locks)) → StandsAmong (begun tree) stand (all_filled_in holes run)
  all_filled_no_more stand (in_first hole rest) run kind result locks tree (inl h) = inl (h.0, result_no_more hole run kind result locks tree h.1)
  all_filled_no_more stand (in_first hole rest) run kind result locks tree (inr h) = inr h
  all_filled_no_more stand (in_others first holes) run kind result locks tree (inl h) = inl h
  all_filled_no_more stand (in_others first holes) run kind result locks tree (inr h) = inr (all_filled_no_more (others_open stand) holes run kind result locks tree h)

-- ---- steps

abbrev HasNoParts : Open → Runs → Run → Type 0
HasNoParts stand parts later = (tree : Tree) → StandsIn (begun tree) later → StandsAmong (begun tree) stand parts

-- what a step leaves isn't begun, and what stands in it stood among these parts
abbrev LeavesParts : Open → Runs → Move Run Hole → Type 0
LeavesParts stand parts (goes world later) = (IsBegun later → ⊥) × ((tree : Tree) → StandsIn (begun tree) later → StandsAmong (begun tree) stand parts)
LeavesParts stand parts (calls f arguments kind hole) = (value : Value) → HasNoParts stand parts (filled_in hole (done kind (of_value value) []))
LeavesParts stand parts (fails cause place) = Unit {0}
LeavesParts stand parts (exits status) = Unit {0}

result_leaves : (stand : Open) (parts : Runs) (world : World) (kind : CType) (result : Result) (locks : List At) → LeavesParts stand parts (goes world (done kind result locks))
result_leaves stand parts world kind result locks = (result_begun kind result locks, λ tree h. absurd (result_begun kind result locks (tree, h)))

nth_stands : (n : ℕ) (parts : Runs) (tree : Tree) → StandsIn (begun tree) (nth_run n parts) → StandsAmong (begun tree) every parts
nth_stands n no_runs tree h = absurd (result_begun _ _ _ (tree, h))
nth_stands zero (more_runs first rest) tree h = inl (refl, h)
nth_stands (suc n) (more_runs first rest) tree h = inr (nth_stands n rest tree h)

truth_leaves : (parts : Runs) (world : World) (kind : CType) (place : Place) (n : ℕ) → LeavesParts every parts (goes world (going_on gives_truth kind place (nth_run n parts)))
truth_leaves parts world kind place n = (truth_begun kind place _, λ tree h. by_place tree h)
  where
    by_place : (tree : Tree) → StandsIn (begun tree) (going_on gives_truth kind place (nth_run n parts)) → StandsAmong (begun tree) every parts
    by_place tree (inl e) = absurd (truth_begun kind place _ (tree, e))
    by_place tree (inr (inl h)) = nth_stands n parts tree h.1
    by_place tree (inr (inr h)) = absurd h

value_leaves : (parts : Runs) (world : World) (kind : CType) (place : Place) (n : ℕ) → LeavesParts every parts (goes world (going_on gives_value kind place (nth_run n parts)))
value_leaves parts world kind place n = (value_begun kind place _, λ tree h. by_place tree h)
  where
    by_place : (tree : Tree) → StandsIn (begun tree) (going_on gives_value kind place (nth_run n parts)) → StandsAmong (begun tree) every parts
    by_place tree (inl e) = absurd (value_begun kind place _ (tree, e))
    by_place tree (inr (inl h)) = nth_stands n parts tree h.1
    by_place tree (inr (inr h)) = absurd h

did_leaves : (stand : Open) (parts : Runs) (kind : CType) (place : Place) (locks : List At) (did : Did) → LeavesParts stand parts (as_move kind place locks did)
did_leaves stand parts kind place locks (gives world result new) = result_leaves stand parts world kind result _
did_leaves stand parts kind place locks (breaks cause) = tt
did_leaves stand parts kind place locks (ends_with status) = tt

truth_leads : (stand : Open) (parts : Runs) (world : World) (place : Place) (truth : Truth) (next : Bool → Run) → ((b : Bool) → LeavesParts stand parts (goes world (next b))) → LeavesParts stand parts (by_truth world place truth next)
truth_leads stand parts world place (holds b) next h = h b
truth_leads stand parts world place (untold cause) next h = tt

operand_leads : (stand : Open) (parts : Runs) (place : Place) (operands : List Operand) (next : Operand → Move Run Hole) → ((a : Operand) → LeavesParts stand parts (next a)) → LeavesParts stand parts (on_operand place operands next)
operand_leads stand parts place [] next h = tt
operand_leads stand parts place (a ∷ []) next h = h a
operand_leads stand parts place (a ∷ b ∷ rest) next h = tt

module _ (scene : Scene) (world : World) (locks : List At) where
  both_leaves : (kind : CType) (place : Place) (parts : Runs) (b : Bool) → LeavesParts every parts (goes world (both_chosen kind place parts b))
  both_leaves kind place parts true = truth_leaves parts world kind place 1
  both_leaves kind place parts false = result_leaves every parts world kind _ _

  either_leaves : (kind : CType) (place : Place) (parts : Runs) (b : Bool) → LeavesParts every parts (goes world (either_chosen kind place parts b))
  either_leaves kind place parts true = result_leaves every parts world kind _ _
  either_leaves kind place parts false = truth_leaves parts world kind place 1

  answer_leaves : (kind : CType) (place : Place) (parts : Runs) (o : Option Answer) → LeavesParts every parts (answered world kind place o)
  answer_leaves kind place parts None = tt
  answer_leaves kind place parts (Some (answers value input output)) = result_leaves every parts (record world { input = input; output = output }) kind (of_value value) []
  answer_leaves kind place parts (Some (stops status)) = tt
  answer_leaves kind place parts (Some (refuses cause)) = tt

  declared_leaves : (kind : CType) (place : Place) (parts : Runs) (arguments : List Value) (o : Option Declaration) → LeavesParts every parts (undefined_called scene world kind place arguments o)
  declared_leaves kind place parts arguments None = tt
  declared_leaves kind place parts arguments (Some declaration) = answer_leaves kind place parts (Prim declaration.name declaration.kind (layout scene.program) world.memory arguments world.input world.output)

  called_leaves : (kind : CType) (place : Place) (parts : Runs) (arguments : List Value) (d : ℕ) (o : Option Definition) → LeavesParts every parts (called scene world kind place arguments d o)
  called_leaves kind place parts arguments d (Some definition) = λ value tree h. absurd (result_begun kind (of_value value) [] (tree, h))
  called_leaves kind place parts arguments d None = declared_leaves kind place parts arguments (declaration_of scene.program d)

  call_leaves : (kind : CType) (place : Place) (parts : Runs) (arguments : List Value) (o : Option ℕ) → LeavesParts every parts (call_step scene world kind place arguments o)
  call_leaves kind place parts arguments None = tt
  call_leaves kind place parts arguments (Some d) = called_leaves kind place parts arguments d (definition_of scene.program d)

  form_leaves : (label : Label) (kind : CType) (place : Place) (parts : Runs) (operands : List Operand) → LeavesParts (standing_of label) parts (form_step scene world locks label kind place parts operands)
  form_leaves both kind place parts operands =
      operand_leads every parts place operands _ (λ a. truth_leads every parts world place (truth_of world.memory (value_of a.result)) (both_chosen kind place parts) (both_leaves kind place parts))
  form_leaves either kind place parts operands =
      operand_leads every parts place operands _ (λ a. truth_leads every parts world place (truth_of world.memory (value_of a.result)) (either_chosen kind place parts) (either_leaves kind place parts))
  form_leaves choose kind place parts operands =
      operand_leads every parts place operands _ (λ a. truth_leads every parts world place (truth_of world.memory (value_of a.result)) (operand_chosen kind place parts) (λ b. value_leaves parts world kind place (if b then 1 else 2)))
  form_leaves comma kind place parts operands = value_leaves parts world kind place 1
  form_leaves call kind place parts operands = call_leaves kind place parts (map (λ a. value_of a.result) operands) (function_named (nth_run 0 parts))
  form_leaves sizeof_tree kind place parts operands = did_leaves every parts kind place [] (number_alone world kind _)
  form_leaves label kind place parts operands = did_leaves (standing_of label) parts kind place (locks_in_all parts) (operate scene world locks label kind operands)

  own_leaves : (doing : Doing) (kind : CType) (place : Place) (parts : Runs) (operands : List Operand) → LeavesParts (standing_parts doing) parts (node_step scene world locks doing kind place parts operands)
  own_leaves (evaluates label) kind place parts operands = form_leaves label kind place parts operands
  own_leaves gives_truth kind place parts operands =
      operand_leads every parts place operands _ (λ a. truth_leads every parts world place (truth_of world.memory (value_of a.result)) _ (λ b. result_leaves every parts world kind _ _))
  own_leaves gives_value kind place parts operands = operand_leads every parts place operands _ (λ a. result_leaves every parts world kind a.result _)

  -- a step of a tree, and of one of some trees
  abbrev Leaves : Run → Move Run Hole → Type 0
  Leaves run (goes after later) = (IsBegun later → ⊥) × HasNoMore later run
  Leaves run (calls f arguments kind hole) = (value : Value) → HasNoMore (filled_in hole (done kind (of_value value) [])) run
  Leaves run (fails cause place) = Unit {0}
  Leaves run (exits status) = Unit {0}

  abbrev AllLeave : Runs → Move Runs Holes → Type 0
  AllLeave runs (goes after later) = (AreBegun later → ⊥) × ((stand : Open) (tree : Tree) → StandsAmong (begun tree) stand later → StandsAmong (begun tree) stand runs)
  AllLeave runs (calls f arguments kind holes) = (value : Value) (stand : Open) (tree : Tree) → StandsAmong (begun tree) stand (all_filled_in holes (done kind (of_value value) [])) → StandsAmong (begun tree) stand runs
  AllLeave runs (fails cause place) = Unit {0}
  AllLeave runs (exits status) = Unit {0}

  from_own : (doing : Doing) (kind : CType) (place : Place) (parts : Runs) (m : Move Run Hole) → LeavesParts (standing_parts doing) parts m → Leaves (to_do doing kind place parts) m
  from_own doing kind place parts (goes after later) h = (h.0, λ tree s. inr (h.1 tree s))
  from_own doing kind place parts (calls f arguments called_kind hole) h = λ value tree s. inr (h value tree s)
  from_own doing kind place parts (fails cause at) h = tt
  from_own doing kind place parts (exits status) h = tt

  from_inner : (doing : Doing) (kind : CType) (place : Place) (parts : Runs) (x : Move Runs Holes) → AllLeave parts x → Leaves (to_do doing kind place parts) (lifted (to_do doing kind place) (within doing kind place) x)
  from_inner doing kind place parts (goes after later) h = (λ b. h.0 (parts_begun doing kind place later b), λ tree s. by_place tree s)
    where
      by_place : (tree : Tree) → StandsIn (begun tree) (to_do doing kind place later) → StandsIn (begun tree) (to_do doing kind place parts)
      by_place tree (inl e) = absurd (h.0 (parts_begun doing kind place later (tree, e)))
      by_place tree (inr s) = inr (h.1 (standing_parts doing) tree s)
  from_inner doing kind place parts (calls f arguments called_kind holes) h = λ value tree s. by_place value tree s
    where
      by_place : (value : Value) (tree : Tree) → StandsIn (begun tree) (to_do doing kind place (all_filled_in holes (done called_kind (of_value value) []))) → StandsIn (begun tree) (to_do doing kind place parts)
      by_place value tree (inl e) = absurd (filled_begun (within doing kind place holes) called_kind (of_value value) [] (tree, e))
      by_place value tree (inr s) = inr (h value (standing_parts doing) tree s)
  from_inner doing kind place parts (fails cause at) h = tt
  from_inner doing kind place parts (exits status) h = tt

  from_first : (first : Run) (rest : Runs) (x : Move Run Hole) → Leaves first x → AllLeave (more_runs first rest) (lifted (λ run. more_runs run rest) (λ hole. in_first hole rest) x)
  from_first first rest (goes after later) h = (λ b. h.0 (first_begun later rest b), λ stand tree s. by_place stand tree s)
    where
      by_place : (stand : Open) (tree : Tree) → StandsAmong (begun tree) stand (more_runs later rest) → StandsAmong (begun tree) stand (more_runs first rest)
      by_place stand tree (inl s) = inl (s.0, h.1 tree s.1)
      by_place stand tree (inr s) = inr s
  from_first first rest (calls f arguments kind hole) h = λ value stand tree s. by_place value stand tree s
    where
      by_place : (value : Value) (stand : Open) (tree : Tree) → StandsAmong (begun tree) stand (more_runs (filled_in hole (done kind (of_value value) [])) rest) → StandsAmong (begun tree) stand (more_runs first rest)
      by_place value stand tree (inl s) = inl (s.0, h value tree s.1)
      by_place value stand tree (inr s) = inr s
  from_first first rest (fails cause at) h = tt
  from_first first rest (exits status) h = tt

  from_rest : (first : Run) (rest : Runs) (x : Move Runs Holes) → AllLeave rest x → AllLeave (more_runs first rest) (lifted (more_runs first) (in_others first) x)
  from_rest first rest (goes after later) h = (λ b. h.0 (rest_begun first later b), λ stand tree s. by_place stand tree s)
    where
      by_place : (stand : Open) (tree : Tree) → StandsAmong (begun tree) stand (more_runs first later) → StandsAmong (begun tree) stand (more_runs first rest)
      by_place stand tree (inl s) = inl s
      by_place stand tree (inr s) = inr (h.1 (others_open stand) tree s)
  from_rest first rest (calls f arguments kind holes) h = λ value stand tree s. by_place value stand tree s
    where
      by_place : (value : Value) (stand : Open) (tree : Tree) → StandsAmong (begun tree) stand (more_runs first (all_filled_in holes (done kind (of_value value) []))) → StandsAmong (begun tree) stand (more_runs first rest)
      by_place value stand tree (inl s) = inl s
      by_place value stand tree (inr s) = inr (h value (others_open stand) tree s)
  from_rest first rest (fails cause at) h = tt
  from_rest first rest (exits status) h = tt

  mutual
    move_leaves : (run : Run) (m : Move Run Hole) → IsAmong m (moves scene world locks run) → Leaves run m
    move_leaves (done kind result own) m k = absurd k
    move_leaves (to_do doing kind place parts) m k = by_operands (operands_in (open_parts doing) parts) k (moves_leave (open_parts doing) parts)
      where
        by_operands : (o : Option (List Operand)) → IsAmong m (own_or_inner o (node_step scene world locks doing kind place parts) (map (lifted (to_do doing kind place) (within doing kind place)) (moves_in scene world locks (open_parts doing) parts)))
            → ((x : Move Runs Holes) → IsAmong x (moves_in scene world locks (open_parts doing) parts) → AllLeave parts x) → Leaves (to_do doing kind place parts) m
        by_operands (Some operands) (inl e) inner = subst (Leaves (to_do doing kind place parts)) (sym e) (from_own doing kind place parts _ (own_leaves doing kind place parts operands))
        by_operands (Some operands) (inr l) inner = absurd l
        by_operands None l inner =
            let from = among-map_from (lifted (to_do doing kind place) (within doing kind place)) m _ l in
            subst (Leaves (to_do doing kind place parts)) (sym from.2) (from_inner doing kind place parts from.0 (inner from.0 from.1))

    moves_leave : (opens : Open) (runs : Runs) (m : Move Runs Holes) → IsAmong m (moves_in scene world locks opens runs) → AllLeave runs m
    moves_leave opens no_runs m k = absurd k
    moves_leave opens (more_runs first rest) m k = by_either (among_either m _ _ k) (move_leaves first) (moves_leave (others_open opens) rest)
      where
        by_open : (b : Bool) → IsAmong m (where_open b (map (lifted (λ run. more_runs run rest) (λ hole. in_first hole rest)) (moves scene world locks first)))
            → ((x : Move Run Hole) → IsAmong x (moves scene world locks first) → Leaves first x) → AllLeave (more_runs first rest) m
        by_open true l one =
            let from = among-map_from (lifted (λ run. more_runs run rest) (λ hole. in_first hole rest)) m _ l in
            subst (AllLeave (more_runs first rest)) (sym from.2) (from_first first rest from.0 (one from.0 from.1))
        by_open false l one = absurd l

        by_either : IsAmong m (where_open (first_open opens) (map (lifted (λ run. more_runs run rest) (λ hole. in_first hole rest)) (moves scene world locks first)))
            ⊎ IsAmong m (map (lifted (more_runs first) (in_others first)) (moves_in scene world locks (others_open opens) rest))
            → ((x : Move Run Hole) → IsAmong x (moves scene world locks first) → Leaves first x) → ((x : Move Runs Holes) → IsAmong x (moves_in scene world locks (others_open opens) rest) → AllLeave rest x)
            → AllLeave (more_runs first rest) m
        by_either (inl l) one more = by_open (first_open opens) l one
        by_either (inr l) one more =
            let from = among-map_from (lifted (more_runs first) (in_others first)) m _ l in
            subst (AllLeave (more_runs first rest)) (sym from.2) (from_rest first rest from.0 (more from.0 from.1))

  -- What stands in a tree behind a step stood in it before.
  pub step_no_more : (run later : Run) (after : World) → IsAmong (goes after later) (moves scene world locks run) → HasNoMore later run
  step_no_more run later after k = (move_leaves run (goes after later) k).1

  -- and so it does behind a call.
  pub call_no_more : (run : Run) (f : ℕ) (arguments : List Value) (kind : CType) (hole : Hole) → IsAmong (calls f arguments kind hole) (moves scene world locks run) → (value : Value)
      → HasNoMore (filled_in hole (done kind (of_value value) [])) run
  call_no_more run f arguments kind hole k value = move_leaves run (calls f arguments kind hole) k value
