-- What holds of the objects of each frame, and of those that its tasks save, still does after a step, where it holds of what a block adds; and so
-- does what holds of the names that tasks initialise, and of full expressions, where it holds of those that begin, and behind each step.
use Rattle.std.specs.Prelude.{◌≡◌, refl, ◌⊎◌, ℕ, suc, Bool, true, false, List, [], ◌∷◌, ◌++◌, map, drop, Option, Some, None, pos, if◌then◌else◌}
use Rattle.std.proofs.Common.{ap, sym, subst, inl, inr}
use Rattle.dm_token.specs.declared.place.Place.{Place}
use Rattle.dm_int.specs.declared.Kind.TheVariants.{Int}
use Rattle.dm_type.specs.CTypes.{CType}
use Rattle.dm_tree.specs.Trees.{Label, block as block_form, declare, full, if_statement, switch, while_loop, do_loop, for_loop, break, continue, return, Tree, node, listed, Declarator, Initialiser, Initialisers, one_expression, in_braces, no_items, more_items, expressions_in}
use Rattle.dm_meaning.specs.declared.cause.Cause.TheVariants.{NoValue}
use Rattle.dm_meaning.specs.Among.{IsAmong}
use Rattle.dm_meaning.specs.Expressions.{Move, goes, calls, fails, exits, value_of, moves}
use Rattle.dm_meaning.specs.Machines.{undefined}
use Rattle.dm_meaning.specs.Memory.{Memory}
use Rattle.dm_meaning.specs.Objects.{Layout}
use Rattle.dm_meaning.specs.Operations.{Result, of_value, World, Objects, object_named, Truth, holds, untold, truth_of}
use Rattle.dm_meaning.specs.Programs.{Program, Definition, layout, declaration_of, definition_of}
use Rattle.dm_meaning.specs.Running.{Run, done, to_do, begun, Hole, filled_in, locks_in}
use Rattle.dm_meaning.specs.States.{Loop, Use, drops, chooses, selects, repeats, continues, returns, initialises, Task, begins, declares, initials, evaluates, again, tests, ends, ends_switch, leaves, skips, hands_back, Frame, Caller, State}
use Rattle.dm_meaning.specs.Statements.{Turned, onward, refused, Local, with_expressions, is_automatic, type_declared, item_tasks_by, item_tasks, items_tasks, unlabelled, start_task, start_tasks, as_list, entered, begin_for, loop_with, returning, begin_form, begin_tree, initial_of, begin_declarator, part_tasks, begin_initialiser, selected_by, by_test, begins_one, concluded, tested, continued, unfolded, ended, after_break, after_continue}
use Rattle.dm_meaning.specs.Steps.{opened_frame, opened_memory, opened, lacks_value, resumed, gone_back, handed_back, is_main, gives_nothing, body_place, no_place, closed, turned, moved, scene_of, expression_steps, task_steps, Step}
use Rattle.dm_meaning.specs.Values.{Name, numbered, At, Value, integer_value, unset}
use Rattle.dm_meaning.proofs.AmongLemmas.{among-map_from}
use Rattle.dm_meaning.proofs.FormLemmas.{one_tree_has, first_tree_has, option_tree_has, if_tree_has}
use Rattle.dm_meaning.proofs.StateLemmas.{from_steps}
use Rattle.dm_central.proofs.TopLemmas.{found_among}
use Rattle.dm_central.specs.Waiting.{UseHas, TaskKeeps, TasksKeep, FrameKeeps, any_name, any_run}

-- where this is known of the objects that the frame has then
abbrev TurnedKeep : (Objects → Type 0) → (Name → Type 0) → (Run → Type 0) → (Objects → Type 0) → Turned → Type 0
TurnedKeep P N R Q (onward objects tasks memory) = Q objects → P objects × TasksKeep P N R tasks
TurnedKeep P N R Q (refused cause place) = Unit {0}

module _ (program : Program) (P : Objects → Type 0) (N : Name → Type 0) (R : Run → Type 0) where
  -- ---- tasks that save no objects

  joined_have : (xs ys : List Task) → TasksKeep P N R xs → TasksKeep P N R ys → TasksKeep P N R (xs ++ ys)
  joined_have [] ys h k = k
  joined_have (x ∷ xs) ys h k = (h.0, joined_have xs ys h.1 k)

  locals_have : (locals : List Local) → TasksKeep P N R (map (λ (local : Local). declares local.declarator local.expressions) locals)
  locals_have [] = tt
  locals_have (local ∷ locals) = (tt, locals_have locals)

  item_has : (item : Tree) (label : Label) (trees : List Tree) → TasksKeep P N R (item_tasks_by item label trees)
  item_has item (declare lengths declarators) trees = locals_have (with_expressions declarators (drop lengths trees))
  item_has item label trees = (tt, tt)

  one_item_has : (item : Tree) → TasksKeep P N R (item_tasks item)
  one_item_has (node label kind spans trees) = item_has (node label kind spans trees) label (listed trees)

  items_have : (items : List Tree) → TasksKeep P N R (items_tasks items)
  items_have [] = tt
  items_have (item ∷ items) = joined_have (item_tasks item) (items_tasks items) (one_item_has item) (items_have items)

  if_has : (b : Bool) (xs ys : List Task) → TasksKeep P N R xs → TasksKeep P N R ys → TasksKeep P N R (if b then xs else ys)
  if_has true xs ys h k = h
  if_has false xs ys h k = k

  begins_have : (o : Option Tree) (rest : List Task) → TasksKeep P N R rest → TasksKeep P N R (begins_one o ++ rest)
  begins_have None rest h = h
  begins_have (Some tree) rest h = (tt, h)

  pub items_have_none : (items : List Tree) → TasksKeep P N R (items_tasks items)
  items_have_none items = items_have items

  -- ---- what a step leaves

  -- what a step does to frames: it goes on in the one that runs, calls a function, or returns
  pub record Stays (state other : State) : Type 0 where
    pub callers : other.callers ≡ state.callers
    pub function : other.frame.function ≡ state.frame.function
    pub frame : FrameKeeps P N R other.frame
    pub statics : other.statics ≡ state.statics

  pub record Called (names : ℕ → ℕ) (state other : State) : Type 0 where
    pub caller : Caller
    pub definition : Definition
    pub arguments : List Value
    pub callers : other.callers ≡ caller ∷ state.callers
    pub function : caller.frame.function ≡ state.frame.function
    pub objects : caller.frame.objects ≡ state.frame.objects
    pub found : IsAmong definition program.functions
    pub waits : FrameKeeps P N R caller.frame
    pub use_of : UseHas N caller.use_of
    pub resumes : (value : Value) → R (filled_in caller.hole (done caller.kind (of_value value) []))
    pub frame : other.frame ≡ opened_frame program names definition
    pub world : other.world ≡ record state.world { memory = opened_memory program names definition arguments state.world.memory }
    pub statics : other.statics ≡ state.statics

  pub record Returned (state other : State) : Type 0 where
    pub caller : Caller
    pub value : Value
    pub behind : List Caller
    pub was : state.callers ≡ caller ∷ behind
    pub callers : other.callers ≡ behind
    pub frame : other.frame ≡ resumed caller value
    pub statics : other.statics ≡ state.statics

  abbrev pub Shape : (ℕ → ℕ) → State → State → Type 0
  Shape names state other = Stays state other ⊎ (Called names state other ⊎ Returned state other)

  -- what is so of a full expression still is behind a step
  pub record RunsKeep (state : State) : Type 0 where
    pub goes_on : (place : Place) (run later : Run) (use_of : Use) (rest : List Task) (world : World) → unfolded state.frame.tasks ≡ evaluates place run use_of ∷ rest
        → IsAmong (goes world later) (moves (scene_of program state) state.world (locks_in run) run) → R run → R later
    pub resumes : (place : Place) (run : Run) (use_of : Use) (rest : List Task) (f : ℕ) (arguments : List Value) (kind : CType) (hole : Hole)
        → unfolded state.frame.tasks ≡ evaluates place run use_of ∷ rest
        → IsAmong (calls f arguments kind hole) (moves (scene_of program state) state.world (locks_in run) run) → R run
        → (value : Value) → R (filled_in hole (done kind (of_value value) []))

  module _ (named : (objects : Objects) → P objects → (d n : ℕ) → object_named objects d ≡ Some n → N (numbered n)) (begins_so : (tree : Tree) → R (begun tree)) where
    -- ---- tasks

    start_by_label : (tree : Tree) (label : Label) → TasksKeep P N R (start_task tree label)
    start_by_label tree (declare lengths declarators) = one_item_has tree
    start_by_label tree label = ((begins_so tree, tt), tt)

    starts_have : (first : Option Tree) → TasksKeep P N R (start_tasks first)
    starts_have None = tt
    starts_have (Some (node label kind spans trees)) = start_by_label (node label kind spans trees) label

    tested_has : (objects : Objects) (loop : Loop) (rest : List Task) (condition : Option Tree) → P objects → TasksKeep P N R rest → TasksKeep P N R (tested objects loop rest condition)
    tested_has objects loop rest None h k = (tt, (h, k))
    tested_has objects loop rest (Some tree) h k = ((begins_so tree, tt), k)

    continued_has : (objects : Objects) (loop : Loop) (rest : List Task) (after : Option Tree) → P objects → TasksKeep P N R rest → TasksKeep P N R (continued objects loop rest after)
    continued_has objects loop rest None h k = tested_has objects loop rest loop.condition h k
    continued_has objects loop rest (Some tree) h k = ((begins_so tree, tt), k)

    pub unfolded_has : (tasks : List Task) → TasksKeep P N R tasks → TasksKeep P N R (unfolded tasks)
    unfolded_has [] h = tt
    unfolded_has (again objects loop ∷ rest) h = continued_has objects loop rest loop.after h.0 h.1
    unfolded_has (tests objects loop ∷ rest) h = tested_has objects loop rest loop.condition h.0 h.1
    unfolded_has (task ∷ rest) h = h

    parts_have : (layout : Layout) (at : At) (kind : CType) (n : ℕ) (items : Initialisers) (expressions : List Tree) → N at.name → TasksKeep P N R (part_tasks layout at kind n items expressions)
    parts_have layout at kind n no_items expressions h = tt
    parts_have layout at kind n (more_items item items) expressions h = (h, parts_have layout at kind (suc n) items (drop (expressions_in item) expressions) h)

    initial_has : (kind : CType) (o : Option ℕ) (initialiser : Option Initialiser) (trees : List Tree) → ((n : ℕ) → o ≡ Some n → N (numbered n)) → TasksKeep P N R (initial_of kind o initialiser trees)
    initial_has kind (Some n) (Some initialiser) trees h = (h n refl, tt)
    initial_has kind (Some n) None trees h = tt
    initial_has kind None initialiser trees h = tt

    -- ---- statements

    module _ (Q : Objects → Type 0) (names : ℕ → ℕ) (objects : Objects) (memory : Memory) (has : P objects)
        (more : (items : List Tree) → Q (entered program names items objects) → P (entered program names items objects)) where
      returning_has : (o : Option Tree) → TurnedKeep P N R Q (returning objects memory o)
      returning_has None = λ q. (has, (tt, tt))
      returning_has (Some tree) = λ q. (has, ((begins_so tree, tt), tt))

      module _ (rest : List Task) (behind : TasksKeep P N R rest) where
        otherwise : TurnedKeep P N R Q (onward objects (ends objects ∷ rest) memory)
        otherwise q = (has, (has, behind))

        for_has : (first : Option Tree) (loop : Loop) → TurnedKeep P N R Q (begin_for program names objects rest memory first loop)
        for_has first loop q =
            let inner = more (as_list first) q in
            (inner, joined_have (start_tasks first) (tests (entered program names (as_list first) objects) loop ∷ ends objects ∷ rest) (starts_have first) (inner, (has, behind)))

        form_has : (label : Label) (trees : List Tree) → TurnedKeep P N R Q (begin_form program names objects rest memory label trees)
        form_has block_form trees = λ q. (more trees q, joined_have (items_tasks trees) (ends objects ∷ rest) (items_have trees) (has, behind))
        form_has full trees = one_tree_has (TurnedKeep P N R Q) trees _ _ (λ x q. (has, ((begins_so x, tt), (has, behind)))) otherwise
        form_has if_statement trees =
            first_tree_has (TurnedKeep P N R Q) trees _ _ (λ x xs. first_tree_has (TurnedKeep P N R Q) xs _ _ (λ y ys. option_tree_has (TurnedKeep P N R Q) ys _ _ (λ z q. (has, ((begins_so x, tt), (has, behind)))) otherwise) otherwise) otherwise
        form_has switch trees = first_tree_has (TurnedKeep P N R Q) trees _ _ (λ x xs q. (has, ((begins_so x, tt), (has, behind)))) otherwise
        form_has while_loop trees = first_tree_has (TurnedKeep P N R Q) trees _ _ (λ x xs. one_tree_has (TurnedKeep P N R Q) xs _ _ (λ y q. (has, (has, (has, behind)))) otherwise) otherwise
        form_has do_loop trees = first_tree_has (TurnedKeep P N R Q) trees _ _ (λ x xs. one_tree_has (TurnedKeep P N R Q) xs _ _ (λ y q. (has, (tt, (has, (has, behind))))) otherwise) otherwise
        form_has (for_loop first second third) trees =
            if_tree_has (TurnedKeep P N R Q) first trees _ _
            (λ x xs. if_tree_has (TurnedKeep P N R Q) second xs _ _ (λ y ys. if_tree_has (TurnedKeep P N R Q) third ys _ _ (λ z zs. one_tree_has (TurnedKeep P N R Q) zs _ _ (λ b. for_has x (loop_with y z b)) otherwise) otherwise) otherwise) otherwise
        form_has break trees = λ q. (has, (tt, behind))
        form_has continue trees = λ q. (has, (tt, behind))
        form_has return trees = option_tree_has (TurnedKeep P N R Q) trees (returning objects memory) _ returning_has otherwise
        form_has label trees = otherwise

        statement_has : (tree : Tree) → TurnedKeep P N R Q (begin_tree program names objects rest memory tree)
        statement_has (node label kind spans trees) = form_has label (listed trees)

        declarator_has : (declarator : Declarator) (trees : List Tree) → TurnedKeep P N R Q (begin_declarator program objects rest memory declarator trees)
        declarator_has declarator trees =
            let tasks = initial_of (type_declared program declarator.declared) (object_named objects declarator.declared) declarator.initialiser trees in λ q. (
              has,
              joined_have (if is_automatic program declarator then tasks else []) rest
                  (if_has (is_automatic program declarator) tasks [] (initial_has (type_declared program declarator.declared) (object_named objects declarator.declared) declarator.initialiser trees (named objects has declarator.declared)) tt) behind,
            )

        initialiser_has : (at : At) (kind : CType) (initialiser : Initialiser) (trees : List Tree) → N at.name → TurnedKeep P N R Q (begin_initialiser program objects rest memory at kind initialiser trees)
        initialiser_has at kind one_expression trees n = one_tree_has (TurnedKeep P N R Q) trees _ _ (λ x q. (has, ((begins_so x, n), behind))) (λ q. (has, behind))
        initialiser_has at kind (in_braces items) trees n = λ q. (has, joined_have (part_tasks (layout program) at kind 0 items trees) rest (parts_have (layout program) at kind 0 items trees n) behind)

        test_has : (place : Place) (truth : Truth) (following : Bool → Turned) → ((b : Bool) → TurnedKeep P N R Q (following b)) → TurnedKeep P N R Q (by_test place truth following)
        test_has place (holds b) following h = h b
        test_has place (untold cause) following h = tt

        conclusion_has : (place : Place) (use_of : Use) (result : Result) → TurnedKeep P N R Q (concluded program objects rest memory place use_of result)
        conclusion_has place drops result = λ q. (has, behind)
        conclusion_has place (chooses first second) result =
            test_has place (truth_of memory (value_of result)) _ (λ b q. (has, begins_have (if b then Some first else second) rest behind))
        conclusion_has place (selects items) result =
            λ q. (has, joined_have (items_tasks (selected_by program (value_of result) items)) rest (items_have (selected_by program (value_of result) items)) behind)
        conclusion_has place (repeats loop) result =
            test_has place (truth_of memory (value_of result)) _ (λ b q. (has, if_has b (begins loop.body ∷ again objects loop ∷ rest) rest (tt, (has, behind)) behind))
        conclusion_has place (continues loop) result = λ q. (has, (has, behind))
        conclusion_has place returns result = λ q. (has, (tt, tt))
        conclusion_has place (initialises at kind) result = λ q. (has, behind)

      break_has : (tasks : List Task) → TasksKeep P N R tasks → TurnedKeep P N R Q (after_break objects memory tasks)
      break_has [] h = λ q. (has, tt)
      break_has (again saved loop ∷ rest) h = λ q. (h.0, h.1)
      break_has (ends_switch saved ∷ rest) h = λ q. (h.0, h)
      break_has (task ∷ rest) h = break_has rest h.1

      continue_has : (tasks : List Task) → TasksKeep P N R tasks → TurnedKeep P N R Q (after_continue objects memory tasks)
      continue_has [] h = λ q. (has, tt)
      continue_has (again saved loop ∷ rest) h = λ q. (h.0, h)
      continue_has (task ∷ rest) h = continue_has rest h.1

    -- ---- states

    module _ (Q : Objects → Type 0) (names : ℕ → ℕ) (state : State) (has : FrameKeeps P N R state.frame) (keep : RunsKeep state)
        (more : (items : List Tree) → Q (entered program names items state.frame.objects) → P (entered program names items state.frame.objects)) where
      abbrev Shaped : State → Type 0
      Shaped other = Q other.frame.objects → Shape names state other

      as_before : (other : State) → other.callers ≡ state.callers → other.frame ≡ state.frame → other.statics ≡ state.statics → Shaped other
      as_before other e f g q = inl (record { callers = e; function = ap (λ (frame : Frame). frame.function) f; frame = subst (FrameKeeps P N R) (sym f) has; statics = g })

      turned_has : (t : Turned) → TurnedKeep P N R Q t → Shaped (turned state t)
      turned_has (onward objects tasks memory) h q = inl (record { callers = refl; function = refl; frame = h q; statics = refl })
      turned_has (refused cause place) h q = as_before (turned state (refused cause place)) refl refl refl q

      with_tasks : (tasks : List Task) → TasksKeep P N R tasks → Shaped (record state { frame = record state.frame { tasks = tasks } })
      with_tasks tasks h q = inl (record { callers = refl; function = refl; frame = (has.0, h); statics = refl })

      either_has : (b : Bool) (s t : State) → Shaped s → Shaped t → Shaped (if b then s else t)
      either_has true s t h k = h
      either_has false s t h k = k

      closed_has : Shaped (closed program state)
      closed_has =
          either_has (is_main (declaration_of program state.frame.function)) _ _ (with_tasks (hands_back (integer_value Int (pos 0)) ∷ []) (tt, tt))
          (either_has (gives_nothing (type_declared program state.frame.function)) _ (record state { standing = undefined NoValue (body_place (definition_of program state.frame.function) no_place) })
          (with_tasks (hands_back unset ∷ []) (tt, tt)) (as_before (record state { standing = undefined NoValue (body_place (definition_of program state.frame.function) no_place) }) refl refl refl))

      back_has : (value : Value) (callers : List Caller) → state.callers ≡ callers → Shaped (handed_back state value callers)
      back_has value [] e = as_before (handed_back state value []) refl refl refl
      back_has value (caller ∷ callers) e =
          either_has (lacks_value caller.kind value) (record state { standing = undefined NoValue caller.place }) (gone_back state value caller callers)
          (as_before (record state { standing = undefined NoValue caller.place }) refl refl refl)
          (λ q. inr (inr (record { caller = caller; value = value; behind = callers; was = e; callers = refl; frame = refl; statics = refl })))

      module _ (rest : List Task) (behind : TasksKeep P N R rest) (place : Place) (use_of : Use) (used : UseHas N use_of) (run : Run) (so : R run)
          (evaluating : unfolded state.frame.tasks ≡ evaluates place run use_of ∷ rest) where
        opened_has : (kind : CType) (hole : Hole) (arguments : List Value) → ((value : Value) → R (filled_in hole (done kind (of_value value) []))) → (o : Option Definition)
            → ((definition : Definition) → o ≡ Some definition → IsAmong definition program.functions) → Shaped (opened program names state rest place use_of kind hole arguments o)
        opened_has kind hole arguments resumes None found = as_before (opened program names state rest place use_of kind hole arguments None) refl refl refl
        opened_has kind hole arguments resumes (Some definition) found =
            λ q. inr (inl (record {
              caller = record { frame = record state.frame { tasks = rest }; place = place; kind = kind; hole = hole; use_of = use_of };
              definition = definition;
              arguments = arguments;
              callers = refl;
              objects = refl;
              function = refl;
              found = found definition refl;
              waits = (has.0, behind);
              use_of = used;
              resumes = resumes;
              frame = refl;
              world = refl;
              statics = refl;
            }))

        moved_has : (m : Move Run Hole) → IsAmong m (moves (scene_of program state) state.world (locks_in run) run) → Shaped (moved program names state rest place use_of m)
        moved_has (goes world later) l = λ q. inl (record { callers = refl; function = refl; frame = (has.0, ((keep.goes_on place run later use_of rest world evaluating l so, used), behind)); statics = refl })
        moved_has (calls f arguments kind hole) l =
            opened_has kind hole arguments (keep.resumes place run use_of rest f arguments kind hole evaluating l so) (definition_of program f)
            (λ definition e. found_among program.functions f definition e)
        moved_has (fails cause at) l = as_before (moved program names state rest place use_of (fails cause at)) refl refl refl
        moved_has (exits status) l = as_before (moved program names state rest place use_of (exits status)) refl refl refl

      one_has : (one other : State) → Shaped one → IsAmong other (one ∷ []) → Shaped other
      one_has one other h (inl e) = subst Shaped (sym e) h
      one_has one other h (inr e) = absurd e

      turn_has : (t : Turned) (other : State) → TurnedKeep P N R Q t → IsAmong other (turned state t ∷ []) → Shaped other
      turn_has t other h k = one_has (turned state t) other (turned_has t h) k

      expression_has : (rest : List Task) → TasksKeep P N R rest → (place : Place) (use_of : Use) (run : Run) → R run → UseHas N use_of → unfolded state.frame.tasks ≡ evaluates place run use_of ∷ rest
          → (other : State) → IsAmong other (expression_steps program names state rest place use_of run) → Shaped other
      expression_has rest behind place use_of (done kind result locks) so used e other k =
          turn_has (concluded program state.frame.objects rest state.world.memory place use_of result) other (conclusion_has Q names state.frame.objects state.world.memory has.0 more rest behind place use_of result) k
      expression_has rest behind place use_of (to_do doing kind at parts) so used e other k =
          let from = among-map_from (moved program names state rest place use_of) other (moves (scene_of program state) state.world (locks_in (to_do doing kind at parts)) (to_do doing kind at parts)) k in
          subst Shaped (sym from.2) (moved_has rest behind place use_of used (to_do doing kind at parts) so e from.0 from.1)

      tasks_have : (tasks : List Task) → TasksKeep P N R tasks → unfolded state.frame.tasks ≡ tasks → (other : State) → IsAmong other (task_steps program names state tasks) → Shaped other
      tasks_have [] h e other k = one_has (closed program state) other closed_has k
      tasks_have (begins tree ∷ rest) h e other k = turn_has _ other (statement_has Q names state.frame.objects state.world.memory has.0 more rest h.1 (unlabelled tree)) k
      tasks_have (declares declarator trees ∷ rest) h e other k =
          turn_has (begin_declarator program state.frame.objects rest state.world.memory declarator trees) other (declarator_has Q names state.frame.objects state.world.memory has.0 more rest h.1 declarator trees) k
      tasks_have (initials at kind initialiser trees ∷ rest) h e other k = turn_has _ other (initialiser_has Q names state.frame.objects state.world.memory has.0 more rest h.1 at kind initialiser trees h.0) k
      tasks_have (evaluates place run use_of ∷ rest) h e other k = expression_has rest h.1 place use_of run h.0.0 h.0.1 e other k
      tasks_have (again saved loop ∷ rest) h e other k = absurd k
      tasks_have (tests saved loop ∷ rest) h e other k = absurd k
      tasks_have (ends saved ∷ rest) h e other k = turn_has (ended saved state.frame.objects rest state.world.memory) other (λ q. h) k
      tasks_have (ends_switch saved ∷ rest) h e other k = turn_has (ended saved state.frame.objects rest state.world.memory) other (λ q. h) k
      tasks_have (leaves ∷ rest) h e other k = turn_has _ other (break_has Q names state.frame.objects state.world.memory has.0 more rest h.1) k
      tasks_have (skips ∷ rest) h e other k = turn_has _ other (continue_has Q names state.frame.objects state.world.memory has.0 more rest h.1) k
      tasks_have (hands_back value ∷ rest) h e other k = one_has (handed_back state value state.callers) other (back_has value state.callers refl) k

    -- each step is one of the three
    pub step_shape : (Q : Objects → Type 0) (state other : State) (step : Step program state other) → FrameKeeps P N R state.frame → RunsKeep state
        → ((items : List Tree) → Q (entered program step.0 items state.frame.objects) → P (entered program step.0 items state.frame.objects)) → Q other.frame.objects → Shape step.0 state other
    step_shape Q state other step has keep more q =
        tasks_have Q step.0 state has keep more (unfolded state.frame.tasks) (unfolded_has state.frame.tasks has.1) refl other (from_steps state.standing _ other step.2).1 q

-- where only the objects matter
pub any_use : (use_of : Use) → UseHas any_name use_of
any_use (initialises at kind) = tt
any_use drops = tt
any_use (chooses first second) = tt
any_use (selects items) = tt
any_use (repeats loop) = tt
any_use (continues loop) = tt
any_use returns = tt

pub tasks_any : (tasks : List Task) → TasksKeep (λ objects. Unit {0}) any_name any_run tasks
tasks_any [] = tt
tasks_any (task ∷ tasks) = (task_any task, tasks_any tasks)
  where
    task_any : (task : Task) → TaskKeeps (λ objects. Unit {0}) any_name any_run task
    task_any (evaluates place run use_of) = (tt, any_use use_of)
    task_any task = tt

pub objects_shape : (program : Program) (P Q : Objects → Type 0) (state other : State) (step : Step program state other) → FrameKeeps P any_name any_run state.frame
    → ((items : List Tree) → Q (entered program step.0 items state.frame.objects) → P (entered program step.0 items state.frame.objects)) → Q other.frame.objects → Shape program P any_name any_run step.0 state other
objects_shape program P Q state other step has more q =
    step_shape program P any_name any_run (λ objects h d n e. tt) (λ tree. tt) Q state other step has (record { goes_on = λ place run later use_of rest world e l so. tt; resumes = λ place run use_of rest f arguments kind hole e l so value. tt }) more q

-- the objects of static storage duration stay
pub same_statics : (program : Program) (state other : State) → Step program state other → other.statics ≡ state.statics
same_statics program state other step = by_shape (objects_shape program (λ objects. Unit {0}) (λ objects. Unit {0}) state other step (tt, tasks_any state.frame.tasks) (λ items q. tt) tt)
  where
    by_shape : Shape program (λ objects. Unit {0}) any_name any_run step.0 state other → other.statics ≡ state.statics
    by_shape (inl h) = h.statics
    by_shape (inr (inl h)) = h.statics
    by_shape (inr (inr h)) = h.statics
