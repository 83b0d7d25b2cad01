-- An object that is neither a parameter nor of automatic storage duration has a name in no frame.
use Rattle.std.specs.Prelude.{◌≡◌, refl, ◌⊎◌, ℕ, suc, ◌+◌, ◌==◌, Bool, true, false, not, ◌||◌, List, [], ◌∷◌, ◌++◌, map, length, drop, Option, Some, None, pos, if◌then◌else◌}
use Rattle.std.specs.List.{list_any}
use Rattle.std.proofs.Common.{true≢false, ap, sym, ◌∙◌, subst, inl, inr}
use Rattle.dm_token.specs.declared.place.Place.{Place}
use Rattle.dm_int.specs.declared.Kind.TheVariants.{Int}
use Rattle.dm_type.specs.CTypes.{CType}
use Rattle.dm_tree.specs.Trees.{Label, block as block_form, declare, full, if_statement, switch, while_loop, do_loop, for_loop, break, continue, return, Tree, node, listed, parts_of, Declarator, Initialiser, Initialisers, one_expression, in_braces, no_items, more_items, expressions_in}
use Rattle.dm_meaning.specs.declared.cause.Cause.TheVariants.{NoValue}
use Rattle.dm_meaning.specs.Among.{IsAmong}
use Rattle.dm_meaning.specs.Machines.{undefined}
use Rattle.dm_meaning.specs.Values.{At, Value, integer_value, unset}
use Rattle.dm_meaning.specs.Objects.{Layout}
use Rattle.dm_meaning.specs.Memory.{Memory}
use Rattle.dm_meaning.specs.Programs.{Program, Definition, layout, declaration_of, definition_in, definition_of}
use Rattle.dm_meaning.specs.Operations.{Result, Objects, object_named, Truth, holds, untold, truth_of}
use Rattle.dm_meaning.specs.Running.{Run, done, to_do, Hole, locks_in}
use Rattle.dm_meaning.specs.Expressions.{Move, goes, calls, fails, exits, value_of, moves}
use Rattle.dm_meaning.specs.States.{Loop, Use, drops, chooses, selects, repeats, continues, returns, initialises, Task, begins, declares, initials, evaluates, again, tests, ends, ends_switch, leaves, skips, hands_back, Frame, Caller, State}
use Rattle.dm_meaning.specs.Statements.{Turned, onward, refused, Local, with_expressions, is_automatic, is_automatic_declaration, automatic_in, declared_by_label, declared_in, type_declared, named_from, item_tasks_by, item_tasks, items_tasks, unlabelled, start_task, start_tasks, as_list, entered, begin_for, loop_with, returning, begin_form, begin_tree, initial_of, begin_declarator, part_tasks, begin_initialiser, selected_by, by_test, begins_one, concluded, tested, continued, unfolded, ended, after_break, after_continue}
use Rattle.dm_meaning.specs.Steps.{opened_frame, opened, lacks_value, gone_back, handed_back, is_main, gives_nothing, body_place, no_place, closed, turned, moved, scene_of, expression_steps, task_steps, Step}
use Rattle.dm_meaning.specs.Units.{main_in, Begins}
use Rattle.dm_meaning.specs.Called.{is_parameter, is_nowhere_local}
use Rattle.dm_meaning.proofs.AmongLemmas.{among_either, among-map_from}
use Rattle.dm_meaning.proofs.FormLemmas.{one_tree_has, first_tree_has, option_tree_has, if_tree_has}
use Rattle.dm_meaning.proofs.OptionLemmas.{none_is_some, some_is_some, and_left, and_right}
use Rattle.dm_meaning.proofs.GrowLemmas.{equal_is, differ_is}
use Rattle.dm_meaning.proofs.StateLemmas.{from_steps}

-- ---- what has no name

abbrev pub Lacks : ℕ → Objects → Type 0
Lacks d objects = object_named objects d ≡ None

abbrev TaskLacks : ℕ → Task → Type 0
TaskLacks d (again objects loop) = Lacks d objects
TaskLacks d (tests objects loop) = Lacks d objects
TaskLacks d (ends objects) = Lacks d objects
TaskLacks d (ends_switch objects) = Lacks d objects
TaskLacks d task = Unit {0}

abbrev TasksLack : ℕ → List Task → Type 0
TasksLack d [] = Unit {0}
TasksLack d (task ∷ tasks) = TaskLacks d task × TasksLack d tasks

abbrev FrameLacks : ℕ → Frame → Type 0
FrameLacks d frame = Lacks d frame.objects × TasksLack d frame.tasks

abbrev CallersLack : ℕ → List Caller → Type 0
CallersLack d [] = Unit {0}
CallersLack d (caller ∷ callers) = FrameLacks d caller.frame × CallersLack d callers

-- no frame of a state has a name for it
abbrev pub StateLacks : ℕ → State → Type 0
StateLacks d state = FrameLacks d state.frame × CallersLack d state.callers

abbrev TurnedLacks : ℕ → Turned → Type 0
TurnedLacks d (onward objects tasks memory) = Lacks d objects × TasksLack d tasks
TurnedLacks d (refused cause place) = Unit {0}

-- ---- names

not_true : (b : Bool) → not b ≡ true → b ≡ false
not_true true e = absurd (true≢false (sym e))
not_true false e = refl

module _ (program : Program) (d : ℕ) (apart : is_nowhere_local program d ≡ true) where
  not_automatic : is_automatic_declaration (declaration_of program d) ≡ false
  not_automatic = not_true _ (and_left (not (is_automatic_declaration (declaration_of program d))) (not (is_parameter program.functions d)) apart)

  not_parameter : is_parameter program.functions d ≡ false
  not_parameter = not_true _ (and_right (not (is_automatic_declaration (declaration_of program d))) (not (is_parameter program.functions d)) apart)

  automatic_apart : (declarators : List Declarator) → IsAmong d (automatic_in program declarators) → ⊥
  automatic_apart [] h = h
  automatic_apart (declarator ∷ declarators) h = by_either (among_either d _ (automatic_in program declarators) h) (automatic_apart declarators)
    where
      by_name : (b : Bool) → is_automatic program declarator ≡ b → IsAmong d (if b then declarator.declared ∷ [] else []) → ⊥
      by_name true f (inl g) =
          true≢false (sym (and_right declarator.defines (is_automatic_declaration (declaration_of program declarator.declared)) f) ∙ ap (λ c. is_automatic_declaration (declaration_of program c)) (sym g) ∙ not_automatic)
      by_name true f (inr g) = g
      by_name false f g = g

      by_either : IsAmong d (if is_automatic program declarator then declarator.declared ∷ [] else []) ⊎ IsAmong d (automatic_in program declarators) → (IsAmong d (automatic_in program declarators) → ⊥) → ⊥
      by_either (inl g) later = by_name (is_automatic program declarator) refl g
      by_either (inr g) later = later g

  label_apart : (label : Label) → IsAmong d (declared_by_label program label) → ⊥
  label_apart (declare lengths declarators) h = automatic_apart declarators h
  label_apart label h = h

  items_apart : (items : List Tree) → IsAmong d (declared_in program items) → ⊥
  items_apart [] h = h
  items_apart (node label kind spans trees ∷ items) h = by_either (among_either d (declared_by_label program label) (declared_in program items) h) (items_apart items)
    where
      by_either : IsAmong d (declared_by_label program label) ⊎ IsAmong d (declared_in program items) → (IsAmong d (declared_in program items) → ⊥) → ⊥
      by_either (inl g) later = label_apart label g
      by_either (inr g) later = later g

  or_false : (a b : Bool) → (a || b) ≡ false → (a ≡ false) × (b ≡ false)
  or_false true b e = absurd (true≢false e)
  or_false false b e = (refl, e)

  any_apart : (ps : List ℕ) → list_any (λ p. p == d) ps ≡ false → IsAmong d ps → ⊥
  any_apart [] e h = h
  any_apart (p ∷ ps) e (inl f) = true≢false (sym (equal_is p d (sym f)) ∙ (or_false (p == d) (list_any (λ p. p == d) ps) e).0)
  any_apart (p ∷ ps) e (inr h) = any_apart ps (or_false (p == d) (list_any (λ p. p == d) ps) e).1 h

  functions_apart : (functions : List Definition) → is_parameter functions d ≡ false → (definition : Definition) → IsAmong definition functions → IsAmong d definition.parameters → ⊥
  functions_apart [] e definition h k = h
  functions_apart (first ∷ functions) e definition (inl f) k =
      any_apart first.parameters (or_false (list_any (λ p. p == d) first.parameters) (is_parameter functions d) e).0 (subst (λ (x : Definition). IsAmong d x.parameters) f k)
  functions_apart (first ∷ functions) e definition (inr h) k =
      functions_apart functions (or_false (list_any (λ p. p == d) first.parameters) (is_parameter functions d) e).1 definition h k

  found_among : (functions : List Definition) (f : ℕ) (definition : Definition) → definition_in functions f ≡ Some definition → IsAmong definition functions
  found_among [] f definition e = absurd (none_is_some definition e)
  found_among (first ∷ functions) f definition e = by_name (first.function == f) e (found_among functions f definition)
    where
      by_name : (b : Bool) → (if b then Some first else definition_in functions f) ≡ Some definition → (definition_in functions f ≡ Some definition → IsAmong definition functions) → IsAmong definition (first ∷ functions)
      by_name true g later = inl (sym (some_is_some first definition g))
      by_name false g later = inr (later g)

  main_among : (functions : List Definition) (main : Definition) → main_in program functions ≡ Some main → IsAmong main functions
  main_among [] main e = absurd (none_is_some main e)
  main_among (first ∷ functions) main e = by_name (is_main (declaration_of program first.function)) e (main_among functions main)
    where
      by_name : (b : Bool) → (if b then Some first else main_in program functions) ≡ Some main → (main_in program functions ≡ Some main → IsAmong main functions) → IsAmong main (first ∷ functions)
      by_name true g later = inl (sym (some_is_some first main g))
      by_name false g later = inr (later g)

  named_lack : (names : ℕ → ℕ) (i : ℕ) (ds : List ℕ) (objects : Objects) → (IsAmong d ds → ⊥) → Lacks d objects → Lacks d (named_from names i ds objects)
  named_lack names i [] objects other lacks = lacks
  named_lack names i (e ∷ ds) objects other lacks =
      named_lack names (suc i) ds ((e, names i) ∷ objects) (λ h. other (inr h))
      (ap (λ b. if b then Some (names i) else object_named objects d) (differ_is e d (λ f. other (inl (sym f)))) ∙ lacks)

  -- ---- tasks that name nothing

  joined_lack : (xs ys : List Task) → TasksLack d xs → TasksLack d ys → TasksLack d (xs ++ ys)
  joined_lack [] ys h k = k
  joined_lack (x ∷ xs) ys h k = (h.0, joined_lack xs ys h.1 k)

  locals_lack : (locals : List Local) → TasksLack d (map (λ (local : Local). declares local.declarator local.expressions) locals)
  locals_lack [] = tt
  locals_lack (local ∷ locals) = (tt, locals_lack locals)

  item_lacks : (item : Tree) (label : Label) (trees : List Tree) → TasksLack d (item_tasks_by item label trees)
  item_lacks item (declare lengths declarators) trees = locals_lack (with_expressions declarators (drop lengths trees))
  item_lacks item label trees = (tt, tt)

  one_item_lacks : (item : Tree) → TasksLack d (item_tasks item)
  one_item_lacks (node label kind spans trees) = item_lacks (node label kind spans trees) label (listed trees)

  items_lack : (items : List Tree) → TasksLack d (items_tasks items)
  items_lack [] = tt
  items_lack (item ∷ items) = joined_lack (item_tasks item) (items_tasks items) (one_item_lacks item) (items_lack items)

  start_by_label : (tree : Tree) (label : Label) → TasksLack d (start_task tree label)
  start_by_label tree (declare lengths declarators) = one_item_lacks tree
  start_by_label tree label = (tt, tt)

  starts_lack : (first : Option Tree) → TasksLack d (start_tasks first)
  starts_lack None = tt
  starts_lack (Some (node label kind spans trees)) = start_by_label (node label kind spans trees) label

  tested_lacks : (objects : Objects) (loop : Loop) (rest : List Task) (condition : Option Tree) → Lacks d objects → TasksLack d rest → TasksLack d (tested objects loop rest condition)
  tested_lacks objects loop rest None h k = (tt, (h, k))
  tested_lacks objects loop rest (Some tree) h k = (tt, k)

  continued_lacks : (objects : Objects) (loop : Loop) (rest : List Task) (after : Option Tree) → Lacks d objects → TasksLack d rest → TasksLack d (continued objects loop rest after)
  continued_lacks objects loop rest None h k = tested_lacks objects loop rest loop.condition h k
  continued_lacks objects loop rest (Some tree) h k = (tt, k)

  unfolded_lacks : (tasks : List Task) → TasksLack d tasks → TasksLack d (unfolded tasks)
  unfolded_lacks [] h = tt
  unfolded_lacks (again objects loop ∷ rest) h = continued_lacks objects loop rest loop.after h.0 h.1
  unfolded_lacks (tests objects loop ∷ rest) h = tested_lacks objects loop rest loop.condition h.0 h.1
  unfolded_lacks (task ∷ rest) h = h

  parts_lack : (layout : Layout) (at : At) (kind : CType) (n : ℕ) (items : Initialisers) (expressions : List Tree) → TasksLack d (part_tasks layout at kind n items expressions)
  parts_lack layout at kind n no_items expressions = tt
  parts_lack layout at kind n (more_items item items) expressions = (tt, parts_lack layout at kind (suc n) items (drop (expressions_in item) expressions))

  initial_lacks : (kind : CType) (o : Option ℕ) (initialiser : Option Initialiser) (trees : List Tree) → TasksLack d (initial_of kind o initialiser trees)
  initial_lacks kind (Some n) (Some initialiser) trees = (tt, tt)
  initial_lacks kind o initialiser trees = tt

  if_lacks : (b : Bool) (xs ys : List Task) → TasksLack d xs → TasksLack d ys → TasksLack d (if b then xs else ys)
  if_lacks true xs ys h k = h
  if_lacks false xs ys h k = k

  begins_lack : (o : Option Tree) (rest : List Task) → TasksLack d rest → TasksLack d (begins_one o ++ rest)
  begins_lack None rest h = h
  begins_lack (Some tree) rest h = (tt, h)

  -- ---- statements

  module _ (names : ℕ → ℕ) (objects : Objects) (memory : Memory) (lacks : Lacks d objects) where
    returning_lacks : (o : Option Tree) → TurnedLacks d (returning objects memory o)
    returning_lacks None = (lacks, (tt, tt))
    returning_lacks (Some tree) = (lacks, (tt, tt))

    module _ (rest : List Task) (behind : TasksLack d rest) where
      otherwise : TurnedLacks d (onward objects (ends objects ∷ rest) memory)
      otherwise = (lacks, (lacks, behind))

      entered_lacks : (items : List Tree) → Lacks d (entered program names items objects)
      entered_lacks items = named_lack names 0 (declared_in program items) objects (items_apart items) lacks

      for_lacks : (first : Option Tree) (loop : Loop) → TurnedLacks d (begin_for program names objects rest memory first loop)
      for_lacks first loop =
          let inner = entered_lacks (as_list first) in
          (inner, joined_lack (start_tasks first) (tests (entered program names (as_list first) objects) loop ∷ ends objects ∷ rest) (starts_lack first) (inner, (lacks, behind)))

      form_lacks : (label : Label) (trees : List Tree) → TurnedLacks d (begin_form program names objects rest memory label trees)
      form_lacks block_form trees = (entered_lacks trees, joined_lack (items_tasks trees) (ends objects ∷ rest) (items_lack trees) (lacks, behind))
      form_lacks full trees = one_tree_has (TurnedLacks d) trees _ _ (λ x. (lacks, (tt, (lacks, behind)))) otherwise
      form_lacks if_statement trees =
          first_tree_has (TurnedLacks d) trees _ _ (λ x xs. first_tree_has (TurnedLacks d) xs _ _ (λ y ys. option_tree_has (TurnedLacks d) ys _ _ (λ z. (lacks, (tt, (lacks, behind)))) otherwise) otherwise) otherwise
      form_lacks switch trees = first_tree_has (TurnedLacks d) trees _ _ (λ x xs. (lacks, (tt, (lacks, behind)))) otherwise
      form_lacks while_loop trees = first_tree_has (TurnedLacks d) trees _ _ (λ x xs. one_tree_has (TurnedLacks d) xs _ _ (λ y. (lacks, (lacks, (lacks, behind)))) otherwise) otherwise
      form_lacks do_loop trees = first_tree_has (TurnedLacks d) trees _ _ (λ x xs. one_tree_has (TurnedLacks d) xs _ _ (λ y. (lacks, (tt, (lacks, (lacks, behind))))) otherwise) otherwise
      form_lacks (for_loop first second third) trees =
          if_tree_has (TurnedLacks d) first trees _ _
          (λ x xs. if_tree_has (TurnedLacks d) second xs _ _ (λ y ys. if_tree_has (TurnedLacks d) third ys _ _ (λ z zs. one_tree_has (TurnedLacks d) zs _ _ (λ b. for_lacks x (loop_with y z b)) otherwise) otherwise) otherwise) otherwise
      form_lacks break trees = (lacks, (tt, behind))
      form_lacks continue trees = (lacks, (tt, behind))
      form_lacks return trees = option_tree_has (TurnedLacks d) trees (returning objects memory) _ returning_lacks otherwise
      form_lacks label trees = otherwise

      statement_lacks : (tree : Tree) → TurnedLacks d (begin_tree program names objects rest memory tree)
      statement_lacks (node label kind spans trees) = form_lacks label (listed trees)

      declarator_lacks : (declarator : Declarator) (trees : List Tree) → TurnedLacks d (begin_declarator program objects rest memory declarator trees)
      declarator_lacks declarator trees =
          let tasks = initial_of (type_declared program declarator.declared) (object_named objects declarator.declared) declarator.initialiser trees in (
            lacks,
            joined_lack (if is_automatic program declarator then tasks else []) rest
                (if_lacks (is_automatic program declarator) tasks [] (initial_lacks (type_declared program declarator.declared) (object_named objects declarator.declared) declarator.initialiser trees) tt) behind,
          )

      initialiser_lacks : (at : At) (kind : CType) (initialiser : Initialiser) (trees : List Tree) → TurnedLacks d (begin_initialiser program objects rest memory at kind initialiser trees)
      initialiser_lacks at kind one_expression trees = one_tree_has (TurnedLacks d) trees _ _ (λ x. (lacks, (tt, behind))) (lacks, behind)
      initialiser_lacks at kind (in_braces items) trees = (lacks, joined_lack (part_tasks (layout program) at kind 0 items trees) rest (parts_lack (layout program) at kind 0 items trees) behind)

      test_lacks : (place : Place) (truth : Truth) (following : Bool → Turned) → ((b : Bool) → TurnedLacks d (following b)) → TurnedLacks d (by_test place truth following)
      test_lacks place (holds b) following h = h b
      test_lacks place (untold cause) following h = tt

      conclusion_lacks : (place : Place) (use_of : Use) (result : Result) → TurnedLacks d (concluded program objects rest memory place use_of result)
      conclusion_lacks place drops result = (lacks, behind)
      conclusion_lacks place (chooses first second) result =
          test_lacks place (truth_of memory (value_of result)) _ (λ b. (lacks, begins_lack (if b then Some first else second) rest behind))
      conclusion_lacks place (selects items) result =
          (lacks, joined_lack (items_tasks (selected_by program (value_of result) items)) rest (items_lack (selected_by program (value_of result) items)) behind)
      conclusion_lacks place (repeats loop) result =
          test_lacks place (truth_of memory (value_of result)) _ (λ b. (lacks, if_lacks b (begins loop.body ∷ again objects loop ∷ rest) rest (tt, (lacks, behind)) behind))
      conclusion_lacks place (continues loop) result = (lacks, (lacks, behind))
      conclusion_lacks place returns result = (lacks, (tt, tt))
      conclusion_lacks place (initialises at kind) result = (lacks, behind)

    break_lacks : (tasks : List Task) → TasksLack d tasks → TurnedLacks d (after_break objects memory tasks)
    break_lacks [] h = (lacks, tt)
    break_lacks (again saved loop ∷ rest) h = (h.0, h.1)
    break_lacks (ends_switch saved ∷ rest) h = (h.0, h)
    break_lacks (task ∷ rest) h = break_lacks rest h.1

    continue_lacks : (tasks : List Task) → TasksLack d tasks → TurnedLacks d (after_continue objects memory tasks)
    continue_lacks [] h = (lacks, tt)
    continue_lacks (again saved loop ∷ rest) h = (h.0, h)
    continue_lacks (task ∷ rest) h = continue_lacks rest h.1

  -- ---- states

  frame_lacks : (names : ℕ → ℕ) (definition : Definition) → IsAmong definition program.functions → FrameLacks d (opened_frame program names definition)
  frame_lacks names definition h =
      let items = parts_of definition.body in (
        named_lack names (length definition.parameters) (declared_in program items) (named_from names 0 definition.parameters []) (items_apart items)
            (named_lack names 0 definition.parameters [] (functions_apart program.functions not_parameter definition h) refl),
        items_lack items,
      )

  module _ (names : ℕ → ℕ) (state : State) (lacks : StateLacks d state) where
    turned_lacks : (t : Turned) → TurnedLacks d t → StateLacks d (turned state t)
    turned_lacks (onward objects tasks memory) h = (h, lacks.1)
    turned_lacks (refused cause place) h = lacks

    with_tasks : (tasks : List Task) → TasksLack d tasks → StateLacks d (record state { frame = record state.frame { tasks = tasks } })
    with_tasks tasks h = ((lacks.0.0, h), lacks.1)

    either_lacks : (b : Bool) (s t : State) → StateLacks d s → StateLacks d t → StateLacks d (if b then s else t)
    either_lacks true s t h k = h
    either_lacks false s t h k = k

    closed_lacks : StateLacks d (closed program state)
    closed_lacks =
        either_lacks (is_main (declaration_of program state.frame.function)) _ _ (with_tasks (hands_back (integer_value Int (pos 0)) ∷ []) (tt, tt))
        (either_lacks (gives_nothing (type_declared program state.frame.function)) _ (record state { standing = undefined NoValue (body_place (definition_of program state.frame.function) no_place) })
        (with_tasks (hands_back unset ∷ []) (tt, tt)) lacks)

    back_lacks : (value : Value) (callers : List Caller) → CallersLack d callers → StateLacks d (handed_back state value callers)
    back_lacks value [] h = lacks
    back_lacks value (caller ∷ callers) h =
        either_lacks (lacks_value caller.kind value) (record state { standing = undefined NoValue caller.place }) (gone_back state value caller callers) lacks ((h.0.0, (tt, h.0.1)), h.1)

    module _ (rest : List Task) (behind : TasksLack d rest) (place : Place) (use_of : Use) where
      opened_lacks : (kind : CType) (hole : Hole) (arguments : List Value) (f : ℕ) (o : Option Definition) → definition_of program f ≡ o → StateLacks d (opened program names state rest place use_of kind hole arguments o)
      opened_lacks kind hole arguments f None e = lacks
      opened_lacks kind hole arguments f (Some definition) e = (frame_lacks names definition (found_among program.functions f definition e), ((lacks.0.0, behind), lacks.1))

      moved_lacks : (m : Move Run Hole) → StateLacks d (moved program names state rest place use_of m)
      moved_lacks (goes world run) = ((lacks.0.0, (tt, behind)), lacks.1)
      moved_lacks (calls f arguments kind hole) = opened_lacks kind hole arguments f (definition_of program f) refl
      moved_lacks (fails cause at) = lacks
      moved_lacks (exits status) = lacks

      expression_lacks : (run : Run) (other : State) → IsAmong other (expression_steps program names state rest place use_of run) → StateLacks d other
      expression_lacks (done kind result locks) other k =
          one_lacks (turned_lacks _ (conclusion_lacks names state.frame.objects state.world.memory lacks.0.0 rest behind place use_of result)) k
        where
          one_lacks : StateLacks d (turned state (concluded program state.frame.objects rest state.world.memory place use_of result))
              → IsAmong other (turned state (concluded program state.frame.objects rest state.world.memory place use_of result) ∷ []) → StateLacks d other
          one_lacks h (inl e) = subst (StateLacks d) (sym e) h
          one_lacks h (inr e) = absurd e
      expression_lacks (to_do doing kind at parts) other k =
          let from = among-map_from (moved program names state rest place use_of) other (moves (scene_of program state) state.world (locks_in (to_do doing kind at parts)) (to_do doing kind at parts)) k in
          subst (StateLacks d) (sym from.2) (moved_lacks from.0)

    one_lacks : (one other : State) → StateLacks d one → IsAmong other (one ∷ []) → StateLacks d other
    one_lacks one other h (inl e) = subst (StateLacks d) (sym e) h
    one_lacks one other h (inr e) = absurd e

    turn_lacks : (t : Turned) (other : State) → TurnedLacks d t → IsAmong other (turned state t ∷ []) → StateLacks d other
    turn_lacks t other h k = one_lacks (turned state t) other (turned_lacks t h) k

    tasks_lack : (tasks : List Task) → TasksLack d tasks → (other : State) → IsAmong other (task_steps program names state tasks) → StateLacks d other
    tasks_lack [] h other k = one_lacks (closed program state) other closed_lacks k
    tasks_lack (begins tree ∷ rest) h other k = turn_lacks _ other (statement_lacks names state.frame.objects state.world.memory lacks.0.0 rest h.1 (unlabelled tree)) k
    tasks_lack (declares declarator trees ∷ rest) h other k = turn_lacks (begin_declarator program state.frame.objects rest state.world.memory declarator trees) other (declarator_lacks names state.frame.objects state.world.memory lacks.0.0 rest h.1 declarator trees) k
    tasks_lack (initials at kind initialiser trees ∷ rest) h other k = turn_lacks _ other (initialiser_lacks names state.frame.objects state.world.memory lacks.0.0 rest h.1 at kind initialiser trees) k
    tasks_lack (evaluates place run use_of ∷ rest) h other k = expression_lacks rest h.1 place use_of run other k
    tasks_lack (again saved loop ∷ rest) h other k = absurd k
    tasks_lack (tests saved loop ∷ rest) h other k = absurd k
    tasks_lack (ends saved ∷ rest) h other k = turn_lacks (ended saved state.frame.objects rest state.world.memory) other h k
    tasks_lack (ends_switch saved ∷ rest) h other k = turn_lacks (ended saved state.frame.objects rest state.world.memory) other h k
    tasks_lack (leaves ∷ rest) h other k = turn_lacks _ other (break_lacks names state.frame.objects state.world.memory lacks.0.0 rest h.1) k
    tasks_lack (skips ∷ rest) h other k = turn_lacks _ other (continue_lacks names state.frame.objects state.world.memory lacks.0.0 rest h.1) k
    tasks_lack (hands_back value ∷ rest) h other k = one_lacks (handed_back state value state.callers) other (back_lacks value state.callers lacks.1) k

  -- no step names it
  pub lacks_later : (state other : State) → Step program state other → StateLacks d state → StateLacks d other
  lacks_later state other step lacks =
      tasks_lack step.0 state lacks (unfolded state.frame.tasks) (unfolded_lacks state.frame.tasks lacks.0.1) other (from_steps state.standing _ other step.2).1

  -- nor is it named when a run begins
  pub begins_lacking : (input : List ℕ) (state : State) → Begins program input state → StateLacks d state
  begins_lacking input state (bytes, names, fresh, main, is_main_here, e) =
      subst (StateLacks d) (sym e) (frame_lacks (λ i. names (suc (length program.statics) + i)) main (main_among program.functions main is_main_here), tt)
