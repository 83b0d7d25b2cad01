-- Trees that don't name a function go on not to name it while they are evaluated.
use Rattle.std.specs.Prelude.{◌≡◌, refl, ◌⊎◌, ℕ, zero, suc, ◌+◌, Bool, true, false, List, [], ◌∷◌, ◌++◌, map, length, take, drop, Option, Some, None, if◌then◌else◌}
use Rattle.std.proofs.Common.{ap, sym, ◌∙◌, subst, inl, inr, true≢false}
use Rattle.dm_token.specs.declared.place.Place.{Place}
use Rattle.dm_type.specs.CTypes.{CType}
use Rattle.dm_tree.specs.Trees.{Label, both, either, choose, comma, call, sizeof_tree, function, block as block_form, declare, full, if_statement, switch, case, default, while_loop, do_loop, for_loop, break, continue, return, Tree, Trees, node, no_trees, more_trees, listed, parts_of, Declarator, Initialiser, Initialisers, one_expression, in_braces, no_items, more_items, expressions_in}
use Rattle.dm_tree.specs.Units.{Declaration}
use Rattle.dm_meaning.specs.declared.cause.Cause.TheVariants.{NoValue}
use Rattle.dm_meaning.specs.Among.{IsAmong}
use Rattle.dm_meaning.specs.Expressions.{Move, goes, calls, fails, exits, lifted, value_of, as_move, by_truth, on_operand, answered, undefined_called, called, call_step, function_in, function_named, nth_run, both_chosen, either_chosen, form_step, node_step, own_or_inner, where_open, moves, moves_in}
use Rattle.dm_meaning.specs.Machines.{undefined, Goes}
use Rattle.dm_meaning.specs.Memory.{Memory}
use Rattle.dm_meaning.specs.Objects.{Layout}
use Rattle.dm_meaning.specs.Operations.{of_value, Result, Operand, World, Objects, Scene, Did, gives, breaks, ends_with, object_named, Truth, holds, untold, truth_of, operate}
use Rattle.dm_meaning.specs.Primitives.{Answer, answers, stops, refuses, Prim}
use Rattle.dm_meaning.specs.Programs.{Program, Definition, layout, declaration_of, definition_in, definition_of}
use Rattle.dm_meaning.specs.Running.{Doing, evaluates as evaluates_label, gives_truth, gives_value, Run, done, to_do, Runs, no_runs, more_runs, begun, all_begun, Open, first_open, others_open, open_parts, operands_in, Hole, here, within, Holes, in_first, in_others, filled_in, all_filled_in, locks_in, locks_in_all}
use Rattle.dm_meaning.specs.States.{Loop, Use, drops, chooses, selects, repeats, continues, returns, initialises, Task, begins, declares, initials, evaluates, again, tests, ends, ends_switch, leaves, skips, hands_back, Caller, State}
use Rattle.dm_meaning.specs.Statements.{Turned, onward, refused, evaluation, expressions_of, is_automatic, type_declared, declarator_tasks, item_tasks, items_tasks, unlabelled, start_tasks, begin_for, loop_with, begin_form, begin_tree, initial_of, begin_declarator, part_tasks, begin_initialiser, has_case, has_default, from_first, or_items, on_one_tree, on_first_tree, on_option_tree, on_tree_if, selected_by, by_test, begins_one, concluded, tested, continued, unfolded, ended, after_break, after_continue}
use Rattle.dm_meaning.specs.Steps.{opened_frame, opened, lacks_value, gone_back, handed_back, is_main, gives_nothing, body_place, no_place, closed, turned, moved, scene_of, expression_steps, task_steps, Step}
use Rattle.dm_meaning.specs.Units.{main_in, Begins, machine_of}
use Rattle.dm_meaning.specs.Values.{At, Value, integer_value, unset}
use Rattle.dm_meaning.proofs.AmongLemmas.{among_either, among-map_from}
use Rattle.dm_meaning.proofs.GrowLemmas.{equal_of}
use Rattle.dm_meaning.proofs.OptionLemmas.{none_is_some, some_is_some}
use Rattle.dm_meaning.proofs.StateLemmas.{from_steps}
use Rattle.dm_void.specs.Bodies.{IsOtherName, NotNamed, NoneNamed, AllNotNamed, AreUncalled, IsNeverCalled}

module _ (f : ℕ) where
  -- ---- trees

  pub listed_none : (parts : Trees) → NoneNamed f parts → AllNotNamed f (listed parts)
  listed_none no_trees h = tt
  listed_none (more_trees first rest) h = (h.0, listed_none rest h.1)

  pub taken : (n : ℕ) (trees : List Tree) → AllNotNamed f trees → AllNotNamed f (take n trees)
  taken zero trees h = tt
  taken (suc n) [] h = tt
  taken (suc n) (tree ∷ trees) h = (h.0, taken n trees h.1)

  pub dropped : (n : ℕ) (trees : List Tree) → AllNotNamed f trees → AllNotNamed f (drop n trees)
  dropped zero trees h = h
  dropped (suc n) [] h = tt
  dropped (suc n) (tree ∷ trees) h = dropped n trees h.1

  pub unlabelled_lacks : (tree : Tree) → NotNamed f tree → NotNamed f (unlabelled tree)
  unlabelled_lacks (node case kind spans (more_trees value (more_trees statement rest))) h = unlabelled_lacks statement h.1.1.0
  unlabelled_lacks (node default kind spans (more_trees statement rest)) h = unlabelled_lacks statement h.1.0
  unlabelled_lacks tree h = h

  -- ---- trees under evaluation

  abbrev pub DoingLacks : Doing → Type 0
  DoingLacks (evaluates_label label) = IsOtherName f label
  DoingLacks doing = Unit {0}

  abbrev mutual
    pub RunLacks : Run → Type 0
    RunLacks (done kind result locks) = Unit {0}
    RunLacks (to_do doing kind place parts) = DoingLacks doing × RunsLack parts

    pub RunsLack : Runs → Type 0
    RunsLack no_runs = Unit {0}
    RunsLack (more_runs first rest) = RunLacks first × RunsLack rest

  abbrev mutual
    pub HoleLacks : Hole → Type 0
    HoleLacks here = Unit {0}
    HoleLacks (within doing kind place holes) = DoingLacks doing × HolesLack holes

    pub HolesLack : Holes → Type 0
    HolesLack (in_first hole rest) = HoleLacks hole × RunsLack rest
    HolesLack (in_others first holes) = RunLacks first × HolesLack holes

  mutual
    pub begun_lacks : (tree : Tree) → NotNamed f tree → RunLacks (begun tree)
    begun_lacks (node label kind spans parts) h = (h.0, all_begun_lack parts h.1)

    all_begun_lack : (trees : Trees) → NoneNamed f trees → RunsLack (all_begun trees)
    all_begun_lack no_trees h = tt
    all_begun_lack (more_trees first rest) h = (begun_lacks first h.0, all_begun_lack rest h.1)

  mutual
    pub filled_lacks : (hole : Hole) (run : Run) → HoleLacks hole → RunLacks run → RunLacks (filled_in hole run)
    filled_lacks here run h k = k
    filled_lacks (within doing kind place holes) run h k = (h.0, all_filled_lack holes run h.1 k)

    all_filled_lack : (holes : Holes) (run : Run) → HolesLack holes → RunLacks run → RunsLack (all_filled_in holes run)
    all_filled_lack (in_first hole rest) run h k = (filled_lacks hole run h.0 k, h.1)
    all_filled_lack (in_others first holes) run h k = (h.0, all_filled_lack holes run h.1 k)

  nth_lacks : (n : ℕ) (parts : Runs) → RunsLack parts → RunLacks (nth_run n parts)
  nth_lacks n no_runs h = tt
  nth_lacks zero (more_runs first rest) h = h.0
  nth_lacks (suc n) (more_runs first rest) h = nth_lacks n rest h.1

  other_named : (run : Run) → RunLacks run → (d : ℕ) → function_named run ≡ Some d → d ≡ f → ⊥
  other_named (done kind result locks) h d e = absurd (none_is_some d e)
  other_named (to_do doing kind place parts) h d e = by_doing doing h.0 e
    where
      by_doing : (x : Doing) → DoingLacks x → function_in x ≡ Some d → d ≡ f → ⊥
      by_doing (evaluates_label (function g)) k l = subst (λ n. n ≡ f → ⊥) (some_is_some g d l) k
      by_doing (evaluates_label label) k l = absurd (none_is_some d l)
      by_doing gives_truth k l = absurd (none_is_some d l)
      by_doing gives_value k l = absurd (none_is_some d l)

  -- ---- steps of expressions

  abbrev pub MoveLacks : Move Run Hole → Type 0
  MoveLacks (goes after run) = RunLacks run
  MoveLacks (calls g arguments kind hole) = (g ≡ f → ⊥) × HoleLacks hole
  MoveLacks (fails cause place) = Unit {0}
  MoveLacks (exits status) = Unit {0}

  abbrev MovesLack : Move Runs Holes → Type 0
  MovesLack (goes after runs) = RunsLack runs
  MovesLack (calls g arguments kind holes) = (g ≡ f → ⊥) × HolesLack holes
  MovesLack (fails cause place) = Unit {0}
  MovesLack (exits status) = Unit {0}

  did_lacks : (kind : CType) (place : Place) (locks : List At) (did : Did) → MoveLacks (as_move kind place locks did)
  did_lacks kind place locks (gives world result new) = tt
  did_lacks kind place locks (breaks cause) = tt
  did_lacks kind place locks (ends_with status) = tt

  truth_lacks : (world : World) (place : Place) (truth : Truth) (next : Bool → Run) → ((b : Bool) → RunLacks (next b)) → MoveLacks (by_truth world place truth next)
  truth_lacks world place (holds b) next h = h b
  truth_lacks world place (untold cause) next h = tt

  operand_lacks : (place : Place) (operands : List Operand) (next : Operand → Move Run Hole) → ((a : Operand) → MoveLacks (next a)) → MoveLacks (on_operand place operands next)
  operand_lacks place [] next h = tt
  operand_lacks place (a ∷ []) next h = h a
  operand_lacks place (a ∷ b ∷ rest) next h = tt

  answer_lacks : (world : World) (kind : CType) (place : Place) (o : Option Answer) → MoveLacks (answered world kind place o)
  answer_lacks world kind place None = tt
  answer_lacks world kind place (Some (answers value input output)) = tt
  answer_lacks world kind place (Some (stops status)) = tt
  answer_lacks world kind place (Some (refuses cause)) = tt

  undefined_lacks : (scene : Scene) (world : World) (kind : CType) (place : Place) (arguments : List Value) (o : Option Declaration) → MoveLacks (undefined_called scene world kind place arguments o)
  undefined_lacks scene world kind place arguments None = tt
  undefined_lacks scene world kind place arguments (Some declaration) =
      answer_lacks world kind place (Prim declaration.name declaration.kind (layout scene.program) world.memory arguments world.input world.output)

  called_lacks : (scene : Scene) (world : World) (kind : CType) (place : Place) (arguments : List Value) (d : ℕ) (o : Option Definition) → (d ≡ f → ⊥) → MoveLacks (called scene world kind place arguments d o)
  called_lacks scene world kind place arguments d (Some definition) h = (h, tt)
  called_lacks scene world kind place arguments d None h = undefined_lacks scene world kind place arguments (declaration_of scene.program d)

  call_lacks : (scene : Scene) (world : World) (kind : CType) (place : Place) (arguments : List Value) (o : Option ℕ) → ((d : ℕ) → o ≡ Some d → d ≡ f → ⊥) → MoveLacks (call_step scene world kind place arguments o)
  call_lacks scene world kind place arguments None h = tt
  call_lacks scene world kind place arguments (Some d) h = called_lacks scene world kind place arguments d (definition_of scene.program d) (h d refl)

  form_lacks : (scene : Scene) (world : World) (locks : List At) (label : Label) (kind : CType) (place : Place) (parts : Runs) (operands : List Operand) → RunsLack parts
      → MoveLacks (form_step scene world locks label kind place parts operands)
  form_lacks scene world locks both kind place parts operands h = operand_lacks place operands _ (λ a. truth_lacks world place (truth_of world.memory (value_of a.result)) _ by_bool)
    where
      by_bool : (b : Bool) → RunLacks (both_chosen kind place parts b)
      by_bool true = (tt, (nth_lacks 1 parts h, tt))
      by_bool false = tt
  form_lacks scene world locks either kind place parts operands h = operand_lacks place operands _ (λ a. truth_lacks world place (truth_of world.memory (value_of a.result)) _ by_bool)
    where
      by_bool : (b : Bool) → RunLacks (either_chosen kind place parts b)
      by_bool true = tt
      by_bool false = (tt, (nth_lacks 1 parts h, tt))
  form_lacks scene world locks choose kind place parts operands h =
      operand_lacks place operands _ (λ a. truth_lacks world place (truth_of world.memory (value_of a.result)) _ (λ b. (tt, (nth_lacks (if b then 1 else 2) parts h, tt))))
  form_lacks scene world locks comma kind place parts operands h = (tt, (nth_lacks 1 parts h, tt))
  form_lacks scene world locks call kind place parts operands h =
      call_lacks scene world kind place (map (λ a. value_of a.result) operands) (function_named (nth_run 0 parts)) (λ d e. other_named (nth_run 0 parts) (nth_lacks 0 parts h) d e)
  form_lacks scene world locks sizeof_tree kind place parts operands h = did_lacks kind place [] _
  form_lacks scene world locks label kind place parts operands h = did_lacks kind place (locks_in_all parts) (operate scene world locks label kind operands)

  own_lacks : (scene : Scene) (world : World) (locks : List At) (doing : Doing) (kind : CType) (place : Place) (parts : Runs) (operands : List Operand) → RunsLack parts
      → MoveLacks (node_step scene world locks doing kind place parts operands)
  own_lacks scene world locks (evaluates_label label) kind place parts operands h = form_lacks scene world locks label kind place parts operands h
  own_lacks scene world locks gives_truth kind place parts operands h = operand_lacks place operands _ (λ a. truth_lacks world place (truth_of world.memory (value_of a.result)) _ (λ b. tt))
  own_lacks scene world locks gives_value kind place parts operands h = operand_lacks place operands _ (λ a. tt)

  open_only : (b : Bool) (m : Move Runs Holes) (xs : List (Move Runs Holes)) → IsAmong m (where_open b xs) → IsAmong m xs
  open_only true m xs k = k
  open_only false m xs k = absurd k

  by_operands : (scene : Scene) (world : World) (locks : List At) (doing : Doing) (kind : CType) (place : Place) (parts : Runs) → DoingLacks doing → RunsLack parts
      → ((x : Move Runs Holes) → IsAmong x (moves_in scene world locks (open_parts doing) parts) → MovesLack x) → (m : Move Run Hole) (o : Option (List Operand))
      → IsAmong m (own_or_inner o (node_step scene world locks doing kind place parts) (map (lifted (to_do doing kind place) (within doing kind place)) (moves_in scene world locks (open_parts doing) parts))) → MoveLacks m
  by_operands scene world locks doing kind place parts h below inner m (Some operands) (inl e) = subst MoveLacks (sym e) (own_lacks scene world locks doing kind place parts operands below)
  by_operands scene world locks doing kind place parts h below inner m (Some operands) (inr e) = absurd e
  by_operands scene world locks doing kind place parts h below inner m None l =
      let from = among-map_from (lifted (to_do doing kind place) (within doing kind place)) m (moves_in scene world locks (open_parts doing) parts) l in
      subst MoveLacks (sym from.2) (raised from.0 (inner from.0 from.1))
    where
      raised : (x : Move Runs Holes) → MovesLack x → MoveLacks (lifted (to_do doing kind place) (within doing kind place) x)
      raised (goes after runs) k = (h, k)
      raised (calls g arguments own holes) k = (k.0, (h, k.1))
      raised (fails cause at) k = tt
      raised (exits status) k = tt

  by_part : (first : Run) (rest : Runs) → RunLacks first → RunsLack rest → (b : Bool) (first_moves : List (Move Run Hole)) (rest_moves : List (Move Runs Holes)) → ((x : Move Run Hole) → IsAmong x first_moves → MoveLacks x)
      → ((x : Move Runs Holes) → IsAmong x rest_moves → MovesLack x) → (m : Move Runs Holes)
      → IsAmong m (where_open b (map (lifted (λ run. more_runs run rest) (λ hole. in_first hole rest)) first_moves) ++ map (lifted (more_runs first) (in_others first)) rest_moves) → MovesLack m
  by_part first rest h k b first_moves rest_moves here_lack later m l =
      by_side (among_either m (where_open b (map (lifted (λ run. more_runs run rest) (λ hole. in_first hole rest)) first_moves)) (map (lifted (more_runs first) (in_others first)) rest_moves) l)
    where
      first_raised : (x : Move Run Hole) → MoveLacks x → MovesLack (lifted (λ run. more_runs run rest) (λ hole. in_first hole rest) x)
      first_raised (goes after run) n = (n, k)
      first_raised (calls g arguments own hole) n = (n.0, (n.1, k))
      first_raised (fails cause at) n = tt
      first_raised (exits status) n = tt

      rest_raised : (x : Move Runs Holes) → MovesLack x → MovesLack (lifted (more_runs first) (in_others first) x)
      rest_raised (goes after runs) n = (h, n)
      rest_raised (calls g arguments own holes) n = (n.0, (h, n.1))
      rest_raised (fails cause at) n = tt
      rest_raised (exits status) n = tt

      by_side : IsAmong m (where_open b (map (lifted (λ run. more_runs run rest) (λ hole. in_first hole rest)) first_moves)) ⊎ IsAmong m (map (lifted (more_runs first) (in_others first)) rest_moves) → MovesLack m
      by_side (inl x) =
          let from = among-map_from (lifted (λ run. more_runs run rest) (λ hole. in_first hole rest)) m first_moves (open_only b m (map (lifted (λ run. more_runs run rest) (λ hole. in_first hole rest)) first_moves) x) in
          subst MovesLack (sym from.2) (first_raised from.0 (here_lack from.0 from.1))
      by_side (inr x) =
          let from = among-map_from (lifted (more_runs first) (in_others first)) m rest_moves x in
          subst MovesLack (sym from.2) (rest_raised from.0 (later from.0 from.1))

  module _ (scene : Scene) (world : World) (locks : List At) where
    mutual
      pub move_lacks : (run : Run) → RunLacks run → (m : Move Run Hole) → IsAmong m (moves scene world locks run) → MoveLacks m
      move_lacks (done kind result own) h m k = absurd k
      move_lacks (to_do doing kind place parts) h m k =
          by_operands scene world locks doing kind place parts h.0 h.1 (λ x l. inner_lacks (open_parts doing) parts h.1 x l) m (operands_in (open_parts doing) parts) k

      inner_lacks : (opens : Open) (parts : Runs) → RunsLack parts → (m : Move Runs Holes) → IsAmong m (moves_in scene world locks opens parts) → MovesLack m
      inner_lacks opens no_runs h m k = absurd k
      inner_lacks opens (more_runs first rest) h m k =
          by_part first rest h.0 h.1 (first_open opens) (moves scene world locks first) (moves_in scene world locks (others_open opens) rest) (λ x l. move_lacks first h.0 x l)
          (λ x l. inner_lacks (others_open opens) rest h.1 x l) m k
