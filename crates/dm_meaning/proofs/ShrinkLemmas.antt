-- How much of a tree isn't evaluated yet: each step of a tree leaves less.
use Rattle.std.specs.Prelude.{◌≡◌, ◌⊎◌, ℕ, zero, suc, ◌+◌, ◌≤◌, Bool, true, false, List, [], ◌∷◌, map, Option, Some, None, if◌then◌else◌}
use Rattle.std.proofs.Common.{arith, ap, sym, subst, inl, inr}
use Rattle.dm_token.specs.declared.place.Place.{Place}
use Rattle.dm_type.specs.CTypes.{CType}
use Rattle.dm_tree.specs.Trees.{Label, both, either, choose, comma, call, sizeof_tree}
use Rattle.dm_tree.specs.Units.{Declaration}
use Rattle.dm_meaning.specs.Among.{IsAmong}
use Rattle.dm_meaning.specs.Values.{At, Value}
use Rattle.dm_meaning.specs.Primitives.{Answer, answers, stops, refuses, Prim}
use Rattle.dm_meaning.specs.Programs.{Definition, layout, declaration_of, definition_of}
use Rattle.dm_meaning.specs.Operations.{of_value, Operand, World, Scene, Did, gives, breaks, ends_with, Truth, holds, untold, truth_of, truth_in, operate}
use Rattle.dm_meaning.specs.Running.{Doing, evaluates, gives_truth, gives_value, Run, done, to_do, Runs, no_runs, more_runs, Hole, here, within, Holes, in_first, in_others, filled_in, all_filled_in, Open, first_open, others_open, open_parts, operands_in, locks_in_all}
use Rattle.dm_meaning.specs.Expressions.{Move, goes, calls, fails, exits, lifted, as_move, by_truth, on_operand, answered, undefined_called, called, call_step, function_named, nth_run, value_of, both_chosen, either_chosen, operand_chosen, form_step, node_step, own_or_inner, where_open, moves, moves_in}
use Rattle.dm_meaning.proofs.AmongLemmas.{among_either, among-map_from}

-- a node that has chosen an operand has less to do than before
abbrev pub own_left : Doing → ℕ
own_left (evaluates label) = 2
own_left gives_truth = 1
own_left gives_value = 1

abbrev mutual
  -- what a tree has left to do
  pub left_in : Run → ℕ
  left_in (done kind result locks) = 0
  left_in (to_do doing kind place parts) = own_left doing + all_left_in parts

  pub all_left_in : Runs → ℕ
  all_left_in no_runs = 0
  all_left_in (more_runs first rest) = left_in first + all_left_in rest

abbrev mutual
  -- where the part that is left out is evaluated
  pub hole_left : Hole → ℕ
  hole_left here = 0
  hole_left (within doing kind place holes) = own_left doing + holes_left holes

  pub holes_left : Holes → ℕ
  holes_left (in_first hole rest) = hole_left hole + all_left_in rest
  holes_left (in_others first holes) = left_in first + holes_left holes

mutual
  pub filled_left : (hole : Hole) (run : Run) → left_in run ≡ 0 → left_in (filled_in hole run) ≡ hole_left hole
  filled_left here run e = e
  filled_left (within doing kind place holes) run e = ap (λ n. own_left doing + n) (all_filled_left holes run e)

  all_filled_left : (holes : Holes) (run : Run) → left_in run ≡ 0 → all_left_in (all_filled_in holes run) ≡ holes_left holes
  all_filled_left (in_first hole rest) run e = ap (λ n. n + all_left_in rest) (filled_left hole run e)
  all_filled_left (in_others first holes) run e = ap (λ n. left_in first + n) (all_filled_left holes run e)

-- a step leaves less than this
abbrev pub Leaves : ℕ → Move Run Hole → Type 0
Leaves n (goes world run) = left_in run + 1 ≤ n
Leaves n (calls f arguments kind hole) = hole_left hole + 1 ≤ n
Leaves n (fails cause place) = Unit {0}
Leaves n (exits status) = Unit {0}

abbrev LeaveAll : ℕ → Move Runs Holes → Type 0
LeaveAll n (goes world parts) = all_left_in parts + 1 ≤ n
LeaveAll n (calls f arguments kind holes) = holes_left holes + 1 ≤ n
LeaveAll n (fails cause place) = Unit {0}
LeaveAll n (exits status) = Unit {0}

-- ---- the step of a node

-- one operand leaves no more than all
nth_left : (n : ℕ) (parts : Runs) → left_in (nth_run n parts) ≤ all_left_in parts
nth_left n no_runs = omega arith
nth_left zero (more_runs first rest) = omega arith
nth_left (suc n) (more_runs first rest) = let later = nth_left n rest in omega (arith, later)

picked_left : (left all : ℕ) → left ≤ all → 1 + (left + 0) + 1 ≤ 2 + all
picked_left left all h = omega (arith, h)

on_operand_leaves : (n : ℕ) (place : Place) (operands : List Operand) (next : Operand → Move Run Hole) → ((a : Operand) → Leaves n (next a)) → Leaves n (on_operand place operands next)
on_operand_leaves n place [] next h = tt
on_operand_leaves n place (a ∷ []) next h = h a
on_operand_leaves n place (a ∷ b ∷ rest) next h = tt

by_truth_leaves : (n : ℕ) (world : World) (place : Place) (truth : Truth) (next : Bool → Run) → ((b : Bool) → left_in (next b) + 1 ≤ n) → Leaves n (by_truth world place truth next)
by_truth_leaves n world place (holds b) next h = h b
by_truth_leaves n world place (untold cause) next h = tt

as_move_leaves : (n : ℕ) (kind : CType) (place : Place) (locks : List At) (did : Did) → 1 ≤ n → Leaves n (as_move kind place locks did)
as_move_leaves n kind place locks (gives world result new) h = h
as_move_leaves n kind place locks (breaks cause) h = tt
as_move_leaves n kind place locks (ends_with status) h = tt

answered_leaves : (n : ℕ) (world : World) (kind : CType) (place : Place) (answer : Option Answer) → 1 ≤ n → Leaves n (answered world kind place answer)
answered_leaves n world kind place None h = tt
answered_leaves n world kind place (Some (answers value input output)) h = h
answered_leaves n world kind place (Some (stops status)) h = tt
answered_leaves n world kind place (Some (refuses cause)) h = tt

two_at_most : (all : ℕ) → 1 ≤ 2 + all
two_at_most all = omega arith

module _ (scene : Scene) (world : World) (locks : List At) where
  undefined_leaves : (n : ℕ) (kind : CType) (place : Place) (arguments : List Value) (declaration : Option Declaration) → 1 ≤ n → Leaves n (undefined_called scene world kind place arguments declaration)
  undefined_leaves n kind place arguments None h = tt
  undefined_leaves n kind place arguments (Some declaration) h =
      answered_leaves n world kind place (Prim declaration.name declaration.kind (layout scene.program) world.memory arguments world.input world.output) h

  called_leaves : (n : ℕ) (kind : CType) (place : Place) (arguments : List Value) (d : ℕ) (definition : Option Definition) → 1 ≤ n → Leaves n (called scene world kind place arguments d definition)
  called_leaves n kind place arguments d (Some definition) h = h
  called_leaves n kind place arguments d None h = undefined_leaves n kind place arguments (declaration_of scene.program d) h

  call_leaves : (n : ℕ) (kind : CType) (place : Place) (arguments : List Value) (named : Option ℕ) → 1 ≤ n → Leaves n (call_step scene world kind place arguments named)
  call_leaves n kind place arguments None h = tt
  call_leaves n kind place arguments (Some d) h = called_leaves n kind place arguments d (definition_of scene.program d) h

  form_leaves : (label : Label) (kind : CType) (place : Place) (parts : Runs) (operands : List Operand) → Leaves (2 + all_left_in parts) (form_step scene world locks label kind place parts operands)
  form_leaves both kind place parts operands =
      on_operand_leaves (2 + all_left_in parts) place operands _ (λ a. by_truth_leaves (2 + all_left_in parts) world place (truth_of world.memory (value_of a.result)) (both_chosen kind place parts) by_bool)
    where
      by_bool : (b : Bool) → left_in (both_chosen kind place parts b) + 1 ≤ 2 + all_left_in parts
      by_bool true = picked_left (left_in (nth_run 1 parts)) (all_left_in parts) (nth_left 1 parts)
      by_bool false = two_at_most (all_left_in parts)
  form_leaves either kind place parts operands =
      on_operand_leaves (2 + all_left_in parts) place operands _ (λ a. by_truth_leaves (2 + all_left_in parts) world place (truth_of world.memory (value_of a.result)) (either_chosen kind place parts) by_bool)
    where
      by_bool : (b : Bool) → left_in (either_chosen kind place parts b) + 1 ≤ 2 + all_left_in parts
      by_bool true = two_at_most (all_left_in parts)
      by_bool false = picked_left (left_in (nth_run 1 parts)) (all_left_in parts) (nth_left 1 parts)
  form_leaves choose kind place parts operands =
      on_operand_leaves (2 + all_left_in parts) place operands _ (λ a. by_truth_leaves (2 + all_left_in parts) world place (truth_of world.memory (value_of a.result)) (operand_chosen kind place parts)
      (λ b. picked_left (left_in (nth_run (if b then 1 else 2) parts)) (all_left_in parts) (nth_left (if b then 1 else 2) parts)))
  form_leaves comma kind place parts operands = picked_left (left_in (nth_run 1 parts)) (all_left_in parts) (nth_left 1 parts)
  form_leaves call kind place parts operands = call_leaves (2 + all_left_in parts) kind place _ (function_named (nth_run 0 parts)) (two_at_most (all_left_in parts))
  form_leaves sizeof_tree kind place parts operands = as_move_leaves (2 + all_left_in parts) kind place [] _ (two_at_most (all_left_in parts))
  form_leaves label kind place parts operands =
      as_move_leaves (2 + all_left_in parts) kind place (locks_in_all parts) (operate scene world locks label kind operands) (two_at_most (all_left_in parts))

  one_at_most : (all : ℕ) → 1 ≤ 1 + all
  one_at_most all = omega arith

  node_leaves : (doing : Doing) (kind : CType) (place : Place) (parts : Runs) (operands : List Operand) → Leaves (own_left doing + all_left_in parts) (node_step scene world locks doing kind place parts operands)
  node_leaves (evaluates label) kind place parts operands = form_leaves label kind place parts operands
  node_leaves gives_truth kind place parts operands =
      on_operand_leaves (1 + all_left_in parts) place operands _ (λ a. by_truth_leaves (1 + all_left_in parts) world place (truth_of world.memory (value_of a.result))
      (λ b. done kind (of_value (truth_in kind b)) (locks_in_all parts)) (λ b. one_at_most (all_left_in parts)))
  node_leaves gives_value kind place parts operands = on_operand_leaves (1 + all_left_in parts) place operands _ (λ a. one_at_most (all_left_in parts))

  -- ---- all steps of a tree

  below_leaves : (doing : Doing) (kind : CType) (place : Place) (n : ℕ) (m : Move Runs Holes) → LeaveAll n m → Leaves (own_left doing + n) (lifted (to_do doing kind place) (within doing kind place) m)
  below_leaves doing kind place n (goes after parts) h = omega (arith, h)
  below_leaves doing kind place n (calls f arguments called_kind holes) h = omega (arith, h)
  below_leaves doing kind place n (fails cause at) h = tt
  below_leaves doing kind place n (exits status) h = tt

  first_leaves : (n : ℕ) (rest : Runs) (m : Move Run Hole) → Leaves n m → LeaveAll (n + all_left_in rest) (lifted (λ run. more_runs run rest) (λ hole. in_first hole rest) m)
  first_leaves n rest (goes after run) h = omega (arith, h)
  first_leaves n rest (calls f arguments called_kind hole) h = omega (arith, h)
  first_leaves n rest (fails cause at) h = tt
  first_leaves n rest (exits status) h = tt

  rest_leave : (first : Run) (n : ℕ) (m : Move Runs Holes) → LeaveAll n m → LeaveAll (left_in first + n) (lifted (more_runs first) (in_others first) m)
  rest_leave first n (goes after parts) h = omega (arith, h)
  rest_leave first n (calls f arguments called_kind holes) h = omega (arith, h)
  rest_leave first n (fails cause at) h = tt
  rest_leave first n (exits status) h = tt

  by_operands : (doing : Doing) (kind : CType) (place : Place) (parts : Runs) (operands : Option (List Operand)) (inner : List (Move Runs Holes)) → ((m : Move Runs Holes) → IsAmong m inner → LeaveAll (all_left_in parts) m)
      → (m : Move Run Hole) → IsAmong m (own_or_inner operands (node_step scene world locks doing kind place parts) (map (lifted (to_do doing kind place) (within doing kind place)) inner)) → Leaves (own_left doing + all_left_in parts) m
  by_operands doing kind place parts (Some operands) inner h m (inl e) = subst (Leaves (own_left doing + all_left_in parts)) (sym e) (node_leaves doing kind place parts operands)
  by_operands doing kind place parts (Some operands) inner h m (inr k) = absurd k
  by_operands doing kind place parts None inner h m k =
      let from = among-map_from (lifted (to_do doing kind place) (within doing kind place)) m inner k in
      subst (Leaves (own_left doing + all_left_in parts)) (sym from.2) (below_leaves doing kind place (all_left_in parts) from.0 (h from.0 from.1))

  first_or_rest : (first : Run) (rest : Runs) (opened : Bool) (ones : List (Move Run Hole)) (others : List (Move Runs Holes))
      → ((x : Move Run Hole) → IsAmong x ones → Leaves (left_in first) x) → ((x : Move Runs Holes) → IsAmong x others → LeaveAll (all_left_in rest) x) → (m : Move Runs Holes)
      → IsAmong m (where_open opened (map (lifted (λ run. more_runs run rest) (λ hole. in_first hole rest)) ones)) ⊎ IsAmong m (map (lifted (more_runs first) (in_others first)) others)
      → LeaveAll (left_in first + all_left_in rest) m
  first_or_rest first rest true ones others one more m (inl k) =
      let from = among-map_from (lifted (λ run. more_runs run rest) (λ hole. in_first hole rest)) m ones k in
      subst (LeaveAll (left_in first + all_left_in rest)) (sym from.2) (first_leaves (left_in first) rest from.0 (one from.0 from.1))
  first_or_rest first rest false ones others one more m (inl k) = absurd k
  first_or_rest first rest opened ones others one more m (inr k) =
      let from = among-map_from (lifted (more_runs first) (in_others first)) m others k in
      subst (LeaveAll (left_in first + all_left_in rest)) (sym from.2) (rest_leave first (all_left_in rest) from.0 (more from.0 from.1))

  mutual
    pub move_leaves : (run : Run) (m : Move Run Hole) → IsAmong m (moves scene world locks run) → Leaves (left_in run) m
    move_leaves (done kind result own) m k = absurd k
    move_leaves (to_do doing kind place parts) m k =
        by_operands doing kind place parts (operands_in (open_parts doing) parts) (moves_in scene world locks (open_parts doing) parts) (moves_leave (open_parts doing) parts) m k

    moves_leave : (opens : Open) (parts : Runs) (m : Move Runs Holes) → IsAmong m (moves_in scene world locks opens parts) → LeaveAll (all_left_in parts) m
    moves_leave opens no_runs m k = absurd k
    moves_leave opens (more_runs first rest) m k =
        first_or_rest first rest (first_open opens) (moves scene world locks first) (moves_in scene world locks (others_open opens) rest) (move_leaves first) (moves_leave (others_open opens) rest) m (among_either m _ _ k)
