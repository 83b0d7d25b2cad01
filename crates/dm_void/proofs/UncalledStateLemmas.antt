-- So do frames, and a function that no other one names is never called.
use Rattle.std.specs.Prelude.{◌≡◌, refl, ◌⊎◌, ℕ, zero, suc, ◌+◌, ◌==◌, Bool, true, false, List, [], ◌∷◌, ◌++◌, map, length, take, drop, Option, Some, None, if◌then◌else◌}
use Rattle.std.proofs.Common.{ap, sym, ◌∙◌, subst, inl, inr, true≢false}
use Rattle.dm_token.specs.declared.place.Place.{Place}
use Rattle.dm_type.specs.CTypes.{CType}
use Rattle.dm_tree.specs.Trees.{Label, both, either, choose, comma, call, sizeof_tree, function, block as block_form, declare, full, if_statement, switch, case, default, while_loop, do_loop, for_loop, break, continue, return, Tree, Trees, node, no_trees, more_trees, listed, parts_of, Declarator, Initialiser, Initialisers, one_expression, in_braces, no_items, more_items, expressions_in}
use Rattle.dm_tree.specs.Units.{Declaration}
use Rattle.dm_meaning.specs.declared.cause.Cause.TheVariants.{NoValue}
use Rattle.dm_meaning.specs.Among.{IsAmong}
use Rattle.dm_meaning.specs.Expressions.{Move, goes, calls, fails, exits, lifted, value_of, as_move, by_truth, on_operand, answered, undefined_called, called, call_step, function_in, function_named, nth_run, both_chosen, either_chosen, form_step, node_step, own_or_inner, where_open, moves, moves_in}
use Rattle.dm_meaning.specs.Machines.{undefined, Goes}
use Rattle.dm_meaning.specs.Memory.{Memory}
use Rattle.dm_meaning.specs.Objects.{Layout}
use Rattle.dm_meaning.specs.Operations.{of_value, Result, Operand, World, Objects, Scene, Did, gives, breaks, ends_with, object_named, Truth, holds, untold, truth_of, operate}
use Rattle.dm_meaning.specs.Primitives.{Answer, answers, stops, refuses, Prim}
use Rattle.dm_meaning.specs.Programs.{Program, Definition, layout, declaration_of, definition_in, definition_of}
use Rattle.dm_meaning.specs.Running.{Doing, evaluates as evaluates_label, gives_truth, gives_value, Run, done, to_do, Runs, no_runs, more_runs, begun, all_begun, Open, first_open, others_open, open_parts, operands_in, Hole, here, within, Holes, in_first, in_others, filled_in, all_filled_in, locks_in, locks_in_all}
use Rattle.dm_meaning.specs.States.{Loop, Use, drops, chooses, selects, repeats, continues, returns, initialises, Task, begins, declares, initials, evaluates, again, tests, ends, ends_switch, leaves, skips, hands_back, Caller, State}
use Rattle.dm_meaning.specs.Statements.{Turned, onward, refused, evaluation, expressions_of, is_automatic, type_declared, declarator_tasks, item_tasks, items_tasks, unlabelled, start_tasks, begin_for, loop_with, begin_form, begin_tree, initial_of, begin_declarator, part_tasks, begin_initialiser, has_case, has_default, from_first, or_items, on_one_tree, on_first_tree, on_option_tree, on_tree_if, selected_by, by_test, begins_one, concluded, tested, continued, unfolded, ended, after_break, after_continue}
use Rattle.dm_meaning.specs.Steps.{opened_frame, opened, lacks_value, gone_back, handed_back, is_main, gives_nothing, body_place, no_place, closed, turned, moved, scene_of, expression_steps, task_steps, Step}
use Rattle.dm_meaning.specs.Units.{main_in, Begins, machine_of}
use Rattle.dm_meaning.specs.Values.{At, Value, integer_value, unset}
use Rattle.dm_meaning.proofs.AmongLemmas.{among_either, among-map_from}
use Rattle.dm_meaning.proofs.GrowLemmas.{equal_of}
use Rattle.dm_meaning.proofs.OptionLemmas.{none_is_some, some_is_some}
use Rattle.dm_meaning.proofs.StateLemmas.{from_steps}
use Rattle.dm_void.specs.Bodies.{NotNamed, NoneNamed, AllNotNamed, AreUncalled, IsNeverCalled}
use Rattle.dm_void.proofs.UncalledLemmas.{listed_none, taken, dropped, unlabelled_lacks, RunLacks, HoleLacks, MoveLacks, begun_lacks, filled_lacks, move_lacks}

module _ (f : ℕ) where
  abbrev OptionLacks : Option Tree → Type 0
  OptionLacks None = Unit {0}
  OptionLacks (Some tree) = NotNamed f tree

  abbrev LoopLacks : Loop → Type 0
  LoopLacks loop = OptionLacks loop.condition × OptionLacks loop.after × NotNamed f loop.body

  abbrev UseLacks : Use → Type 0
  UseLacks (chooses first second) = NotNamed f first × OptionLacks second
  UseLacks (selects items) = AllNotNamed f items
  UseLacks (repeats loop) = LoopLacks loop
  UseLacks (continues loop) = LoopLacks loop
  UseLacks drops = Unit {0}
  UseLacks returns = Unit {0}
  UseLacks (initialises at kind) = Unit {0}

  abbrev TaskLacks : Task → Type 0
  TaskLacks (begins tree) = NotNamed f tree
  TaskLacks (declares declarator expressions) = AllNotNamed f expressions
  TaskLacks (initials at kind initialiser expressions) = AllNotNamed f expressions
  TaskLacks (evaluates place run use_of) = RunLacks f run × UseLacks use_of
  TaskLacks (again objects loop) = LoopLacks loop
  TaskLacks (tests objects loop) = LoopLacks loop
  TaskLacks (ends objects) = Unit {0}
  TaskLacks (ends_switch objects) = Unit {0}
  TaskLacks leaves = Unit {0}
  TaskLacks skips = Unit {0}
  TaskLacks (hands_back value) = Unit {0}

  abbrev TasksLack : List Task → Type 0
  TasksLack [] = Unit {0}
  TasksLack (task ∷ tasks) = TaskLacks task × TasksLack tasks

  abbrev TurnedLacks : Turned → Type 0
  TurnedLacks (onward objects tasks memory) = TasksLack tasks
  TurnedLacks (refused cause place) = Unit {0}

  abbrev CallersLack : List Caller → Type 0
  CallersLack [] = Unit {0}
  CallersLack (caller ∷ callers) = ((caller.frame.function ≡ f → ⊥) × TasksLack caller.frame.tasks × HoleLacks f caller.hole × UseLacks caller.use_of) × CallersLack callers

  abbrev StateLacks : State → Type 0
  StateLacks state = (state.frame.function ≡ f → ⊥) × TasksLack state.frame.tasks × CallersLack state.callers

  evaluation_lack : (tree : Tree) (use_of : Use) → NotNamed f tree → UseLacks use_of → TaskLacks (evaluation tree use_of)
  evaluation_lack tree use_of e h = (begun_lacks f tree e, h)

  -- ---- lists of tasks

  joined_lack : (xs ys : List Task) → TasksLack xs → TasksLack ys → TasksLack (xs ++ ys)
  joined_lack [] ys h k = k
  joined_lack (x ∷ xs) ys h k = (h.0, joined_lack xs ys h.1 k)

  locals_lack : (declarators : List Declarator) (trees : List Tree) → AllNotNamed f trees → TasksLack (declarator_tasks declarators trees)
  locals_lack [] trees h = tt
  locals_lack (declarator ∷ declarators) trees h =
      (taken f (expressions_of declarator.initialiser) trees h, locals_lack declarators (drop (expressions_of declarator.initialiser) trees) (dropped f (expressions_of declarator.initialiser) trees h))

  item_lack : (item : Tree) → NotNamed f item → TasksLack (item_tasks item)
  item_lack (node (declare lengths declarators) kind spans parts) e = locals_lack declarators (drop lengths (listed parts)) (dropped f lengths (listed parts) (listed_none f parts e.1))
  item_lack (node label kind spans parts) e = (e, tt)

  items_lack : (items : List Tree) → AllNotNamed f items → TasksLack (items_tasks items)
  items_lack [] h = tt
  items_lack (item ∷ items) h = joined_lack (item_tasks item) (items_tasks items) (item_lack item h.0) (items_lack items h.1)

  tested_lack : (objects : Objects) (loop : Loop) (rest : List Task) (condition : Option Tree) → LoopLacks loop → OptionLacks condition → TasksLack rest → TasksLack (tested objects loop rest condition)
  tested_lack objects loop rest None h c k = (h.2, (h, k))
  tested_lack objects loop rest (Some tree) h c k = (evaluation_lack tree (repeats loop) c h, k)

  continued_lack : (objects : Objects) (loop : Loop) (rest : List Task) (after : Option Tree) → LoopLacks loop → OptionLacks after → TasksLack rest → TasksLack (continued objects loop rest after)
  continued_lack objects loop rest None h c k = tested_lack objects loop rest loop.condition h h.0 k
  continued_lack objects loop rest (Some tree) h c k = (evaluation_lack tree (continues loop) c h, k)

  unfolded_lack : (tasks : List Task) → TasksLack tasks → TasksLack (unfolded tasks)
  unfolded_lack [] h = tt
  unfolded_lack (again objects loop ∷ rest) h = continued_lack objects loop rest loop.after h.0 h.0.1 h.1
  unfolded_lack (tests objects loop ∷ rest) h = tested_lack objects loop rest loop.condition h.0 h.0.0 h.1
  unfolded_lack (task ∷ rest) h = h

  parts_lack : (layout : Layout) (at : At) (kind : CType) (n : ℕ) (items : Initialisers) (expressions : List Tree) → AllNotNamed f expressions → TasksLack (part_tasks layout at kind n items expressions)
  parts_lack layout at kind n no_items expressions h = tt
  parts_lack layout at kind n (more_items item items) expressions h =
      (taken f (expressions_in item) expressions h, parts_lack layout at kind (suc n) items (drop (expressions_in item) expressions) (dropped f (expressions_in item) expressions h))

  initial_lack : (kind : CType) (o : Option ℕ) (initialiser : Option Initialiser) (trees : List Tree) → AllNotNamed f trees → TasksLack (initial_of kind o initialiser trees)
  initial_lack kind (Some n) (Some initialiser) trees h = (h, tt)
  initial_lack kind (Some n) None trees h = tt
  initial_lack kind None initialiser trees h = tt

  if_lack : (b : Bool) (xs ys : List Task) → TasksLack xs → TasksLack ys → TasksLack (if b then xs else ys)
  if_lack true xs ys h k = h
  if_lack false xs ys h k = k

  begins_lack : (o : Option Tree) (rest : List Task) → OptionLacks o → TasksLack rest → TasksLack (begins_one o ++ rest)
  begins_lack None rest h k = k
  begins_lack (Some tree) rest h k = (h, k)

  -- the items of a switch from one on
  first_lack : (test : Tree → Bool) (items others : List Tree) → AllNotNamed f items → AllNotNamed f others → AllNotNamed f (or_items (from_first test items) others)
  first_lack test [] others h k = k
  first_lack test (item ∷ items) others h k = by_test (test item) (first_lack test items others h.1 k)
    where
      by_test : (b : Bool) → AllNotNamed f (or_items (from_first test items) others) → AllNotNamed f (or_items (if b then Some (item ∷ items) else from_first test items) others)
      by_test true later = h
      by_test false later = later

  selected_lack : (program : Program) (value : Value) (items : List Tree) → AllNotNamed f items → AllNotNamed f (selected_by program value items)
  selected_lack program (integer_value kind z) items h = first_lack (has_case program z) items (or_items (from_first has_default items) []) h (first_lack has_default items [] h tt)
  selected_lack program value items h = tt

  -- ---- statements

  module _ (program : Program) (names : ℕ → ℕ) (objects : Objects) (memory : Memory) (rest : List Task) (behind : TasksLack rest) where
    otherwise : TurnedLacks (onward objects (ends objects ∷ rest) memory)
    otherwise = (tt, behind)

    start_lack : (tree : Tree) → NotNamed f tree → TasksLack (start_tasks (Some tree))
    start_lack (node (declare lengths declarators) kind spans parts) e = locals_lack declarators (drop lengths (listed parts)) (dropped f lengths (listed parts) (listed_none f parts e.1))
    start_lack (node label kind spans parts) e = (evaluation_lack (node label kind spans parts) drops e tt, tt)

    for_lack : (first : Option Tree) (loop : Loop) → OptionLacks first → LoopLacks loop → TurnedLacks (begin_for program names objects rest memory first loop)
    for_lack None loop h k = (k, (tt, behind))
    for_lack (Some tree) loop h k = joined_lack (start_tasks (Some tree)) _ (start_lack tree h) (k, (tt, behind))

    -- the parts of a statement
    one_lacks : (trees : List Tree) (following : Tree → Turned) → AllNotNamed f trees → ((x : Tree) → NotNamed f x → TurnedLacks (following x)) → TurnedLacks (on_one_tree trees following (onward objects (ends objects ∷ rest) memory))
    one_lacks [] following h k = otherwise
    one_lacks (x ∷ []) following h k = k x h.0
    one_lacks (x ∷ y ∷ others) following h k = otherwise

    first_lacks : (trees : List Tree) (following : Tree → List Tree → Turned) → AllNotNamed f trees → ((x : Tree) (xs : List Tree) → NotNamed f x → AllNotNamed f xs → TurnedLacks (following x xs))
        → TurnedLacks (on_first_tree trees following (onward objects (ends objects ∷ rest) memory))
    first_lacks [] following h k = otherwise
    first_lacks (x ∷ others) following h k = k x others h.0 h.1

    option_lacks : (trees : List Tree) (following : Option Tree → Turned) → AllNotNamed f trees → ((x : Option Tree) → OptionLacks x → TurnedLacks (following x))
        → TurnedLacks (on_option_tree trees following (onward objects (ends objects ∷ rest) memory))
    option_lacks [] following h k = k None tt
    option_lacks (x ∷ []) following h k = k (Some x) h.0
    option_lacks (x ∷ y ∷ others) following h k = otherwise

    if_lacks : (there : Bool) (trees : List Tree) (following : Option Tree → List Tree → Turned) → AllNotNamed f trees → ((x : Option Tree) (xs : List Tree) → OptionLacks x → AllNotNamed f xs → TurnedLacks (following x xs))
        → TurnedLacks (on_tree_if there trees following (onward objects (ends objects ∷ rest) memory))
    if_lacks false trees following h k = k None trees tt h
    if_lacks true [] following h k = otherwise
    if_lacks true (x ∷ others) following h k = k (Some x) others h.0 h.1

    form_lack : (label : Label) (trees : List Tree) → AllNotNamed f trees → TurnedLacks (begin_form program names objects rest memory label trees)
    form_lack block_form trees h = joined_lack (items_tasks trees) (ends objects ∷ rest) (items_lack trees h) (tt, behind)
    form_lack full trees h = one_lacks trees _ h (λ x k. (evaluation_lack x drops k tt, (tt, behind)))
    form_lack if_statement trees h =
        first_lacks trees _ h (λ x xs k ks. first_lacks xs _ ks (λ y ys l ls. option_lacks ys _ ls (λ z m. (evaluation_lack x (chooses y z) k (l, m), (tt, behind)))))
    form_lack switch trees h = first_lacks trees _ h (λ x xs k ks. (evaluation_lack x (selects xs) k ks, (tt, behind)))
    form_lack while_loop trees h = first_lacks trees _ h (λ x xs k ks. one_lacks xs _ ks (λ y l. ((k, tt, l), (tt, behind))))
    form_lack do_loop trees h = first_lacks trees _ h (λ x xs k ks. one_lacks xs _ ks (λ y l. (k, ((l, tt, k), (tt, behind)))))
    form_lack (for_loop first second third) trees h =
        if_lacks first trees _ h
        (λ x xs k ks. if_lacks second xs _ ks (λ y ys l ls. if_lacks third ys _ ls (λ z zs m ms. one_lacks zs _ ms (λ body n. for_lack x (loop_with y z body) k (l, m, n)))))
    form_lack break trees h = (tt, behind)
    form_lack continue trees h = (tt, behind)
    form_lack return [] h = (tt, tt)
    form_lack return (tree ∷ []) h = (evaluation_lack tree returns h.0 tt, tt)
    form_lack return (tree ∷ other ∷ trees) h = otherwise
    form_lack label trees h = otherwise

    statement_lack : (tree : Tree) → NotNamed f tree → TurnedLacks (begin_tree program names objects rest memory tree)
    statement_lack (node label kind spans parts) e = form_lack label (listed parts) (listed_none f parts e.1)

    declarator_lack : (declarator : Declarator) (trees : List Tree) → AllNotNamed f trees → TurnedLacks (begin_declarator program objects rest memory declarator trees)
    declarator_lack declarator trees h =
        let tasks = initial_of (type_declared program declarator.declared) (object_named objects declarator.declared) declarator.initialiser trees in
        joined_lack (if is_automatic program declarator then tasks else []) rest
        (if_lack (is_automatic program declarator) tasks [] (initial_lack (type_declared program declarator.declared) (object_named objects declarator.declared) declarator.initialiser trees h) tt) behind

    initialiser_lack : (at : At) (kind : CType) (initialiser : Initialiser) (trees : List Tree) → AllNotNamed f trees → TurnedLacks (begin_initialiser program objects rest memory at kind initialiser trees)
    initialiser_lack at kind one_expression [] h = behind
    initialiser_lack at kind one_expression (tree ∷ []) h = (evaluation_lack tree (initialises at kind) h.0 tt, behind)
    initialiser_lack at kind one_expression (tree ∷ other ∷ trees) h = behind
    initialiser_lack at kind (in_braces items) trees h = joined_lack (part_tasks (layout program) at kind 0 items trees) rest (parts_lack (layout program) at kind 0 items trees h) behind

    test_lack : (place : Place) (truth : Truth) (following : Bool → Turned) → ((b : Bool) → TurnedLacks (following b)) → TurnedLacks (by_test place truth following)
    test_lack place (holds b) following h = h b
    test_lack place (untold cause) following h = tt

    conclusion_lack : (place : Place) (use_of : Use) (result : Result) → UseLacks use_of → TurnedLacks (concluded program objects rest memory place use_of result)
    conclusion_lack place drops result h = behind
    conclusion_lack place (chooses first second) result h = test_lack place (truth_of memory (value_of result)) _ (λ b. begins_lack (if b then Some first else second) rest (by_bool b) behind)
      where
        by_bool : (b : Bool) → OptionLacks (if b then Some first else second)
        by_bool true = h.0
        by_bool false = h.1
    conclusion_lack place (selects items) result h =
        joined_lack (items_tasks (selected_by program (value_of result) items)) rest (items_lack (selected_by program (value_of result) items) (selected_lack program (value_of result) items h)) behind
    conclusion_lack place (repeats loop) result h = test_lack place (truth_of memory (value_of result)) _ (λ b. if_lack b (begins loop.body ∷ again objects loop ∷ rest) rest (h.2, (h, behind)) behind)
    conclusion_lack place (continues loop) result h = (h, behind)
    conclusion_lack place returns result h = (tt, tt)
    conclusion_lack place (initialises at kind) result h = behind

  break_lack : (objects : Objects) (memory : Memory) (tasks : List Task) → TasksLack tasks → TurnedLacks (after_break objects memory tasks)
  break_lack objects memory [] h = tt
  break_lack objects memory (again saved loop ∷ rest) h = h.1
  break_lack objects memory (ends_switch saved ∷ rest) h = h
  break_lack objects memory (task ∷ rest) h = break_lack objects memory rest h.1

  continue_lack : (objects : Objects) (memory : Memory) (tasks : List Task) → TasksLack tasks → TurnedLacks (after_continue objects memory tasks)
  continue_lack objects memory [] h = tt
  continue_lack objects memory (again saved loop ∷ rest) h = h
  continue_lack objects memory (task ∷ rest) h = continue_lack objects memory rest h.1

  -- ---- states

  main_among : (program : Program) (functions : List Definition) (main : Definition) → main_in program functions ≡ Some main → IsAmong main functions × (is_main (declaration_of program main.function) ≡ true)
  main_among program [] main e = absurd (none_is_some main e)
  main_among program (first ∷ functions) main e = by_name (is_main (declaration_of program first.function)) refl e (main_among program functions main)
    where
      by_name : (b : Bool) → is_main (declaration_of program first.function) ≡ b → (if b then Some first else main_in program functions) ≡ Some main
          → (main_in program functions ≡ Some main → IsAmong main functions × (is_main (declaration_of program main.function) ≡ true)) → IsAmong main (first ∷ functions) × (is_main (declaration_of program main.function) ≡ true)
      by_name true is g later = (inl (sym (some_is_some first main g)), ap (λ (d : Definition). is_main (declaration_of program d.function)) (sym (some_is_some first main g)) ∙ is)
      by_name false is g later = let found = later g in (inr found.0, found.1)

  found_among : (functions : List Definition) (g : ℕ) (definition : Definition) → definition_in functions g ≡ Some definition → IsAmong definition functions × (definition.function ≡ g)
  found_among [] g definition e = absurd (none_is_some definition e)
  found_among (first ∷ functions) g definition e = by_number (first.function == g) refl e (found_among functions g definition)
    where
      by_number : (b : Bool) → (first.function == g) ≡ b → (if b then Some first else definition_in functions g) ≡ Some definition
          → (definition_in functions g ≡ Some definition → IsAmong definition functions × (definition.function ≡ g)) → IsAmong definition (first ∷ functions) × (definition.function ≡ g)
      by_number true is k later = (inl (sym (some_is_some first definition k)), ap (λ (d : Definition). d.function) (sym (some_is_some first definition k)) ∙ equal_of first.function g is)
      by_number false is k later = let found = later k in (inr found.0, found.1)

  module _ (program : Program) (uncalled : AreUncalled program f) (other_name : is_main (declaration_of program f) ≡ false) where
    -- another function's frame
    frame_lack : (names : ℕ → ℕ) (definition : Definition) → IsAmong definition program.functions → (definition.function ≡ f → ⊥) → TasksLack (opened_frame program names definition).tasks
    frame_lack names definition h other = by_case (uncalled definition h)
      where
        by_case : (definition.function ≡ f) ⊎ AllNotNamed f (parts_of definition.body) → TasksLack (items_tasks (parts_of definition.body))
        by_case (inl e) = absurd (other e)
        by_case (inr k) = items_lack (parts_of definition.body) k

    module _ (names : ℕ → ℕ) (state : State) (lacks : StateLacks state) where
      turned_lack : (t : Turned) → TurnedLacks t → StateLacks (turned state t)
      turned_lack (onward objects tasks memory) h = (lacks.0, h, lacks.2)
      turned_lack (refused cause place) h = lacks

      either_lack : (b : Bool) (s t : State) → StateLacks s → StateLacks t → StateLacks (if b then s else t)
      either_lack true s t h k = h
      either_lack false s t h k = k

      closed_lack : StateLacks (closed program state)
      closed_lack =
          either_lack (is_main (declaration_of program state.frame.function)) _ _ (lacks.0, (tt, tt), lacks.2)
          (either_lack (gives_nothing (type_declared program state.frame.function)) (record state { frame = record state.frame { tasks = hands_back unset ∷ [] } })
          (record state { standing = undefined NoValue (body_place (definition_of program state.frame.function) no_place) }) (lacks.0, (tt, tt), lacks.2) lacks)

      back_lack : (value : Value) (callers : List Caller) → CallersLack callers → StateLacks (handed_back state value callers)
      back_lack value [] h = lacks
      back_lack value (caller ∷ callers) h =
          either_lack (lacks_value caller.kind value) (record state { standing = undefined NoValue caller.place }) (gone_back state value caller callers) lacks
          (h.0.0, ((filled_lacks f caller.hole (done caller.kind (of_value value) []) h.0.2 tt, h.0.3), h.0.1), h.1)

      opened_lack : (rest : List Task) → TasksLack rest → (place : Place) (use_of : Use) → UseLacks use_of → (kind : CType) (hole : Hole) → HoleLacks f hole → (arguments : List Value) (g : ℕ) → (g ≡ f → ⊥) → (o : Option Definition) → definition_of program g ≡ o
          → StateLacks (opened program names state rest place use_of kind hole arguments o)
      opened_lack rest behind place use_of u kind hole h arguments g other None e = lacks
      opened_lack rest behind place use_of u kind hole h arguments g other (Some definition) e =
          let found = found_among program.functions g definition e in
          let another : definition.function ≡ f → ⊥ = λ k. other (sym found.1 ∙ k) in
          (another, frame_lack names definition found.0 another, ((lacks.0, behind, h, u), lacks.2))

      moved_lack : (rest : List Task) → TasksLack rest → (place : Place) (use_of : Use) → UseLacks use_of → (m : Move Run Hole) → MoveLacks f m → StateLacks (moved program names state rest place use_of m)
      moved_lack rest behind place use_of u (goes world run) h = (lacks.0, ((h, u), behind), lacks.2)
      moved_lack rest behind place use_of u (calls g arguments kind hole) h = opened_lack rest behind place use_of u kind hole h.1 arguments g h.0 (definition_of program g) refl
      moved_lack rest behind place use_of u (fails cause at) h = lacks
      moved_lack rest behind place use_of u (exits status) h = lacks

      one_lack : (one other : State) → StateLacks one → IsAmong other (one ∷ []) → StateLacks other
      one_lack one other h (inl e) = subst StateLacks (sym e) h
      one_lack one other h (inr e) = absurd e

      turn_lack : (t : Turned) (other : State) → TurnedLacks t → IsAmong other (turned state t ∷ []) → StateLacks other
      turn_lack t other h k = one_lack (turned state t) other (turned_lack t h) k

      expression_lack : (rest : List Task) → TasksLack rest → (place : Place) (use_of : Use) → UseLacks use_of → (run : Run) → RunLacks f run → (other : State) → IsAmong other (expression_steps program names state rest place use_of run) → StateLacks other
      expression_lack rest behind place use_of u (done kind result locks) h other k =
          turn_lack (concluded program state.frame.objects rest state.world.memory place use_of result) other (conclusion_lack program names state.frame.objects state.world.memory rest behind place use_of result u) k
      expression_lack rest behind place use_of u (to_do doing kind at members) h other k =
          let run = to_do doing kind at members in
          let from = among-map_from (moved program names state rest place use_of) other (moves (scene_of program state) state.world (locks_in run) run) k in
          subst StateLacks (sym from.2) (moved_lack rest behind place use_of u from.0 (move_lacks f (scene_of program state) state.world (locks_in run) run h from.0 from.1))

      tasks_lack : (tasks : List Task) → TasksLack tasks → (other : State) → IsAmong other (task_steps program names state tasks) → StateLacks other
      tasks_lack [] h other k = one_lack (closed program state) other closed_lack k
      tasks_lack (begins tree ∷ rest) h other k = turn_lack _ other (statement_lack program names state.frame.objects state.world.memory rest h.1 (unlabelled tree) (unlabelled_lacks f tree h.0)) k
      tasks_lack (declares declarator trees ∷ rest) h other k =
          turn_lack (begin_declarator program state.frame.objects rest state.world.memory declarator trees) other (declarator_lack program names state.frame.objects state.world.memory rest h.1 declarator trees h.0) k
      tasks_lack (initials at kind initialiser trees ∷ rest) h other k =
          turn_lack (begin_initialiser program state.frame.objects rest state.world.memory at kind initialiser trees) other (initialiser_lack program names state.frame.objects state.world.memory rest h.1 at kind initialiser trees h.0) k
      tasks_lack (evaluates place run use_of ∷ rest) h other k = expression_lack rest h.1 place use_of h.0.1 run h.0.0 other k
      tasks_lack (again saved loop ∷ rest) h other k = absurd k
      tasks_lack (tests saved loop ∷ rest) h other k = absurd k
      tasks_lack (ends saved ∷ rest) h other k = turn_lack (ended saved state.frame.objects rest state.world.memory) other h.1 k
      tasks_lack (ends_switch saved ∷ rest) h other k = turn_lack (ended saved state.frame.objects rest state.world.memory) other h.1 k
      tasks_lack (leaves ∷ rest) h other k = turn_lack _ other (break_lack state.frame.objects state.world.memory rest h.1) k
      tasks_lack (skips ∷ rest) h other k = turn_lack _ other (continue_lack state.frame.objects state.world.memory rest h.1) k
      tasks_lack (hands_back value ∷ rest) h other k = one_lack (handed_back state value state.callers) other (back_lack value state.callers lacks.2) k

    lacks_later : (state other : State) → Step program state other → StateLacks state → StateLacks other
    lacks_later state other step lacks = tasks_lack step.0 state lacks (unfolded state.frame.tasks) (unfolded_lack state.frame.tasks lacks.1) other (from_steps state.standing _ other step.2).1

    begins_lacking : (input : List ℕ) (state : State) → Begins program input state → StateLacks state
    begins_lacking input state (bytes, names, fresh, main, is_main_here, e) =
        let found = main_among program program.functions main is_main_here in
        let another : main.function ≡ f → ⊥ = λ k. true≢false (sym found.1 ∙ (ap (λ n. is_main (declaration_of program n)) k ∙ other_name)) in
        subst StateLacks (sym e) (another, frame_lack (λ i. names (suc (length program.statics) + i)) main found.0 another, tt)

    goes_lacking : (n : ℕ) (s t : State) → Goes (machine_of program) n s t → StateLacks s → StateLacks t
    unfolding Goes
    goes_lacking zero s t e h = subst StateLacks e h
    goes_lacking (suc n) s t (middle, step, rest) h = goes_lacking n middle t rest (lacks_later s middle step h)

    pub never_called : IsNeverCalled program f
    never_called input n state run e = (goes_lacking n run.start state run.goes (begins_lacking input run.start run.begins)).0 e
