-- Statements that begin, full expressions that end, and jumps leave tasks in which no expression takes the object for set whose first value is given.
use Rattle.std.specs.Prelude.{◌≡◌, refl, ℕ, zero, suc, Bool, true, false, List, [], ◌∷◌, ◌++◌, map, take, drop, Option, Some, None, if◌then◌else◌}
use Rattle.std.proofs.Common.{ap, sym, subst}
use Rattle.dm_token.specs.declared.place.Place.{Place}
use Rattle.dm_type.specs.CTypes.{CType}
use Rattle.dm_tree.specs.Trees.{Label, block as block_form, declare, full, if_statement, switch, case, default, while_loop, do_loop, for_loop, break, continue, return, Tree, Trees, node, no_trees, more_trees, listed, Declarator, Initialiser, Initialisers, one_expression, in_braces, no_items, more_items, expressions_in}
use Rattle.dm_meaning.specs.Values.{At, Value, integer_value, pointer_value, parts, unset}
use Rattle.dm_meaning.specs.Memory.{Memory}
use Rattle.dm_meaning.specs.Programs.{Program, layout}
use Rattle.dm_meaning.specs.Operations.{Result, Objects, object_named, Truth, holds, untold, truth_of}
use Rattle.dm_meaning.specs.Expressions.{value_of}
use Rattle.dm_meaning.specs.States.{Loop, Use, drops, chooses, selects, repeats, continues, returns, initialises, Task, begins, declares, initials, evaluates, again, tests, ends, ends_switch, leaves, skips, hands_back}
use Rattle.dm_meaning.specs.Statements.{Turned, onward, refused, evaluation, is_automatic, type_declared, Local, with_expressions, item_tasks, items_tasks, unlabelled, entered, as_list, start_tasks, begin_for, on_one_tree, on_first_tree, on_option_tree, on_tree_if, loop_with, returning, begin_form, begin_tree, begin_statement, initial_of, begin_declarator, part_tasks, begin_initialiser, has_case, has_default, from_first, or_items, selected_by, by_test, begins_one, concluded, tested, continued, unfolded, after_break, after_continue}
use Rattle.dm_safe.specs.Spared.{AllSpare, LocalsSpare, TreeSpares, TreesSpare, ListSpares, IfThereSpares, LoopSpares, UseSpares, OwnSpares, TasksSpare}

module _ (needs : ℕ → Bool) (sets : Tree → ℕ → Bool) where
  -- ---- trees

  pub list_spares : (trees : Trees) → TreesSpare needs sets trees → ListSpares needs sets (listed trees)
  list_spares no_trees h = tt
  list_spares (more_trees first rest) h = (h.0, list_spares rest h.1)

  unlabelled_spares : (tree : Tree) → TreeSpares needs sets tree → TreeSpares needs sets (unlabelled tree)
  unlabelled_spares (node case kind spans (more_trees value (more_trees statement rest))) h = unlabelled_spares statement h.1.1.0
  unlabelled_spares (node default kind spans (more_trees statement rest)) h = unlabelled_spares statement h.1.0
  unlabelled_spares tree h = h

  taken_spare : (d n : ℕ) (trees : List Tree) → AllSpare needs sets d trees → AllSpare needs sets d (take n trees)
  taken_spare d zero trees h = tt
  taken_spare d (suc n) [] h = tt
  taken_spare d (suc n) (tree ∷ trees) h = (h.0, taken_spare d n trees h.1)

  dropped_spare : (d n : ℕ) (trees : List Tree) → AllSpare needs sets d trees → AllSpare needs sets d (drop n trees)
  dropped_spare d zero trees h = h
  dropped_spare d (suc n) [] h = tt
  dropped_spare d (suc n) (tree ∷ trees) h = dropped_spare d n trees h.1

  -- ---- items of blocks

  locals_spare : (objects : Objects) (locals : List Local) (rest : List Task) → LocalsSpare needs sets locals → TasksSpare needs sets objects rest
      → TasksSpare needs sets objects (map (λ (local : Local). declares local.declarator local.expressions) locals ++ rest)
  locals_spare objects [] rest h k = k
  locals_spare objects (local ∷ locals) rest h k = (h.0, locals_spare objects locals rest h.1 k)

  item_spares : (objects : Objects) (tree : Tree) (rest : List Task) → TreeSpares needs sets tree → TasksSpare needs sets objects rest → TasksSpare needs sets objects (item_tasks tree ++ rest)
  item_spares objects (node (declare lengths declarators) kind spans members) rest h k = locals_spare objects (with_expressions declarators (drop lengths (listed members))) rest h.0 k
  item_spares objects (node label kind spans members) rest h k = (h, k)

  behind : (objects : Objects) (xs ys zs : List Task) → TasksSpare needs sets objects (xs ++ (ys ++ zs)) → TasksSpare needs sets objects ((xs ++ ys) ++ zs)
  behind objects xs ys zs h = subst (TasksSpare needs sets objects) (sym (joined xs)) h
    where
      joined : (ts : List Task) → (ts ++ ys) ++ zs ≡ ts ++ (ys ++ zs)
      joined [] = refl
      joined (t ∷ ts) = ap (λ us. t ∷ us) (joined ts)

  pub items_spare : (objects : Objects) (items : List Tree) (rest : List Task) → ListSpares needs sets items → TasksSpare needs sets objects rest → TasksSpare needs sets objects (items_tasks items ++ rest)
  items_spare objects [] rest h k = k
  items_spare objects (item ∷ items) rest h k = behind objects (item_tasks item) (items_tasks items) rest (item_spares objects item (items_tasks items ++ rest) h.0 (items_spare objects items rest h.1 k))

  first_items : (test : Tree → Bool) (items : List Tree) → ListSpares needs sets items → (others : List Tree) → ListSpares needs sets others → ListSpares needs sets (or_items (from_first test items) others)
  first_items test [] h others k = k
  first_items test (item ∷ items) h others k = by_test_of (test item) (first_items test items h.1 others k)
    where
      by_test_of : (b : Bool) → ListSpares needs sets (or_items (from_first test items) others) → ListSpares needs sets (or_items (if b then Some (item ∷ items) else from_first test items) others)
      by_test_of true later = h
      by_test_of false later = later

  selected_spare : (program : Program) (value : Value) (items : List Tree) → ListSpares needs sets items → ListSpares needs sets (selected_by program value items)
  selected_spare program (integer_value kind z) items h = first_items (has_case program z) items h (or_items (from_first has_default items) []) (first_items has_default items h [] tt)
  selected_spare program (pointer_value p) items h = tt
  selected_spare program (parts all) items h = tt
  selected_spare program unset items h = tt

  -- ---- statements

  -- what a step leaves in the frame
  abbrev pub TurnedSpares : Turned → Type 0
  TurnedSpares (onward objects tasks memory) = TasksSpare needs sets objects tasks
  TurnedSpares (refused cause place) = Unit {0}

  one_tree : (trees : List Tree) → ListSpares needs sets trees → (following : Tree → Turned) (otherwise : Turned) → ((x : Tree) → TreeSpares needs sets x → TurnedSpares (following x)) → TurnedSpares otherwise → TurnedSpares (on_one_tree trees following otherwise)
  one_tree [] s following otherwise h k = k
  one_tree (x ∷ []) s following otherwise h k = h x s.0
  one_tree (x ∷ y ∷ rest) s following otherwise h k = k

  first_tree : (trees : List Tree) → ListSpares needs sets trees → (following : Tree → List Tree → Turned) (otherwise : Turned) → ((x : Tree) (xs : List Tree) → TreeSpares needs sets x → ListSpares needs sets xs → TurnedSpares (following x xs)) → TurnedSpares otherwise
      → TurnedSpares (on_first_tree trees following otherwise)
  first_tree [] s following otherwise h k = k
  first_tree (x ∷ rest) s following otherwise h k = h x rest s.0 s.1

  option_tree : (trees : List Tree) → ListSpares needs sets trees → (following : Option Tree → Turned) (otherwise : Turned) → ((o : Option Tree) → IfThereSpares needs sets o → TurnedSpares (following o)) → TurnedSpares otherwise
      → TurnedSpares (on_option_tree trees following otherwise)
  option_tree [] s following otherwise h k = h None tt
  option_tree (x ∷ []) s following otherwise h k = h (Some x) s.0
  option_tree (x ∷ y ∷ rest) s following otherwise h k = k

  if_tree : (there : Bool) (trees : List Tree) → ListSpares needs sets trees → (following : Option Tree → List Tree → Turned) (otherwise : Turned) → ((x : Option Tree) (xs : List Tree) → IfThereSpares needs sets x → ListSpares needs sets xs → TurnedSpares (following x xs))
      → TurnedSpares otherwise → TurnedSpares (on_tree_if there trees following otherwise)
  if_tree false trees s following otherwise h k = h None trees tt s
  if_tree true [] s following otherwise h k = k
  if_tree true (x ∷ rest) s following otherwise h k = h (Some x) rest s.0 s.1

  module _ (program : Program) (names : ℕ → ℕ) (objects : Objects) (rest : List Task) (memory : Memory) (waits : TasksSpare needs sets objects rest) where
    start_spares : (inner : Objects) (start : Option Tree) (more : List Task) → IfThereSpares needs sets start → TasksSpare needs sets inner more → TasksSpare needs sets inner (start_tasks start ++ more)
    start_spares inner None more h k = k
    start_spares inner (Some (node (declare lengths declarators) kind spans members)) more h k = item_spares inner (node (declare lengths declarators) kind spans members) more h k
    start_spares inner (Some (node label kind spans members)) more h k = (tt, tt, k)

    for_spares : (start : Option Tree) (loop : Loop) → IfThereSpares needs sets start → LoopSpares needs sets loop → TurnedSpares (begin_for program names objects rest memory start loop)
    for_spares start loop h l =
        start_spares (entered program names (as_list start) objects) start (tests (entered program names (as_list start) objects) loop ∷ ends objects ∷ rest) h (refl, l, waits)

    form_spares : (label : Label) (trees : List Tree) → ListSpares needs sets trees → TurnedSpares (begin_form program names objects rest memory label trees)
    form_spares block_form trees h = items_spare (entered program names trees objects) trees (ends objects ∷ rest) h waits
    form_spares full trees h = one_tree trees h _ _ (λ x s. (tt, tt, waits)) waits
    form_spares if_statement trees h =
        first_tree trees h _ _ (λ x xs s k. first_tree xs k _ _ (λ y ys t l. option_tree ys l _ _ (λ o u. (tt, (t, u), waits)) waits) waits) waits
    form_spares switch trees h = first_tree trees h _ _ (λ x xs s k. (tt, k, waits)) waits
    form_spares while_loop trees h = first_tree trees h _ _ (λ x xs s k. one_tree xs k _ _ (λ y t. (refl, (s, tt, t), waits)) waits) waits
    form_spares do_loop trees h = first_tree trees h _ _ (λ x xs s k. one_tree xs k _ _ (λ y t. (s, (refl, (t, tt, s), waits))) waits) waits
    form_spares (for_loop first second third) trees h =
        if_tree first trees h _ _ (λ start xs s k. if_tree second xs k _ _ (λ condition ys t l. if_tree third ys l _ _ (λ after zs u m. one_tree zs m _ _ (λ body v.
        for_spares start (loop_with condition after body) s (t, u, v)) waits) waits) waits) waits
    form_spares break trees h = waits
    form_spares continue trees h = waits
    form_spares return trees h = option_tree trees h _ _ (λ o s. returned o) waits
      where
        returned : (o : Option Tree) → TurnedSpares (returning objects memory o)
        returned None = tt
        returned (Some tree) = (tt, tt, tt)
    form_spares label trees h = waits

    pub statement_spares : (tree : Tree) → TreeSpares needs sets tree → TurnedSpares (begin_statement program names objects rest memory tree)
    statement_spares tree h = by_node (unlabelled tree) (unlabelled_spares tree h)
      where
        by_node : (t : Tree) → TreeSpares needs sets t → TurnedSpares (begin_tree program names objects rest memory t)
        by_node (node label kind spans members) k = form_spares label (listed members) (list_spares members k.1)

  -- ---- declarators and initialisers

  module _ (program : Program) (objects : Objects) (rest : List Task) (memory : Memory) (waits : TasksSpare needs sets objects rest) where
    pub declarator_spares : (declarator : Declarator) (trees : List Tree) → AllSpare needs sets declarator.declared trees → TurnedSpares (begin_declarator program objects rest memory declarator trees)
    declarator_spares declarator trees h = by_duration (is_automatic program declarator)
      where
        by_initial : (kind : CType) (o : Option ℕ) → object_named objects declarator.declared ≡ o → (i : Option Initialiser) → TasksSpare needs sets objects (initial_of kind o i trees ++ rest)
        by_initial kind None e i = waits
        by_initial kind (Some n) e None = waits
        by_initial kind (Some n) e (Some i) = ((declarator.declared, n, e, refl, h), waits)

        by_duration : (b : Bool) → TasksSpare needs sets objects ((if b then initial_of (type_declared program declarator.declared) (object_named objects declarator.declared) declarator.initialiser trees else []) ++ rest)
        by_duration true = by_initial (type_declared program declarator.declared) (object_named objects declarator.declared) refl declarator.initialiser
        by_duration false = waits

    parts_spare : (at : At) (kind : CType) (n : ℕ) (items : Initialisers) (trees : List Tree) → OwnSpares needs sets objects at (λ d. AllSpare needs sets d trees) → TasksSpare needs sets objects (part_tasks (layout program) at kind n items trees ++ rest)
    parts_spare at kind n no_items trees h = waits
    parts_spare at kind n (more_items item items) trees h = (
      (h.0, h.1, h.2, h.3, taken_spare h.0 (expressions_in item) trees h.4),
      parts_spare at kind (suc n) items (drop (expressions_in item) trees) (h.0, h.1, h.2, h.3, dropped_spare h.0 (expressions_in item) trees h.4),
    )

    pub initialiser_spares : (at : At) (kind : CType) (initialiser : Initialiser) (trees : List Tree) → OwnSpares needs sets objects at (λ d. AllSpare needs sets d trees) → TurnedSpares (begin_initialiser program objects rest memory at kind initialiser trees)
    initialiser_spares at kind one_expression [] h = waits
    initialiser_spares at kind one_expression (tree ∷ []) h = by_node tree h
      where
        by_node : (t : Tree) → OwnSpares needs sets objects at (λ d. AllSpare needs sets d (t ∷ [])) → TasksSpare needs sets objects (evaluation t (initialises at kind) ∷ rest)
        by_node (node label own spans members) k = ((k.0, k.1, k.2, k.3, k.4.0), tt, waits)
    initialiser_spares at kind one_expression (x ∷ y ∷ others) h = waits
    initialiser_spares at kind (in_braces items) trees h = parts_spare at kind 0 items trees h

    -- ---- the end of a full expression

    told_spares : (place : Place) (truth : Truth) (following : Bool → Turned) → ((b : Bool) → TurnedSpares (following b)) → TurnedSpares (by_test place truth following)
    told_spares place (holds b) following h = h b
    told_spares place (untold cause) following h = tt

    pub concluded_spares : (place : Place) (use_of : Use) (result : Result) → UseSpares needs sets use_of → TurnedSpares (concluded program objects rest memory place use_of result)
    concluded_spares place drops result h = waits
    concluded_spares place (chooses first second) result h = told_spares place (truth_of memory (value_of result)) _ (λ b. chosen b second h.1)
      where
        chosen : (b : Bool) (o : Option Tree) → IfThereSpares needs sets o → TasksSpare needs sets objects (begins_one (if b then Some first else o) ++ rest)
        chosen true o k = (h.0, waits)
        chosen false None k = waits
        chosen false (Some tree) k = (k, waits)
    concluded_spares place (selects items) result h = items_spare objects (selected_by program (value_of result) items) rest (selected_spare program (value_of result) items h) waits
    concluded_spares place (repeats loop) result h = told_spares place (truth_of memory (value_of result)) _ (λ b. repeated b)
      where
        repeated : (b : Bool) → TasksSpare needs sets objects (if b then begins loop.body ∷ again objects loop ∷ rest else rest)
        repeated true = (h.2, (refl, h, waits))
        repeated false = waits
    concluded_spares place (continues loop) result h = (refl, h, waits)
    concluded_spares place returns result h = tt
    concluded_spares place (initialises at kind) result h = waits

  -- ---- what ends

  module _ (objects : Objects) (memory : Memory) where
    pub break_spares : (tasks : List Task) (others : Objects) → TasksSpare needs sets others tasks → TurnedSpares (after_break objects memory tasks)
    break_spares [] others h = tt
    break_spares (again saved loop ∷ tasks) others h = h.2
    break_spares (ends_switch saved ∷ tasks) others h = h
    break_spares (begins tree ∷ tasks) others h = break_spares tasks others h.1
    break_spares (declares declarator trees ∷ tasks) others h = break_spares tasks others h.1
    break_spares (initials at kind initialiser trees ∷ tasks) others h = break_spares tasks others h.1
    break_spares (evaluates place run use_of ∷ tasks) others h = break_spares tasks others h.2
    break_spares (tests saved loop ∷ tasks) others h = break_spares tasks saved h.2
    break_spares (ends saved ∷ tasks) others h = break_spares tasks saved h
    break_spares (leaves ∷ tasks) others h = break_spares tasks others h
    break_spares (skips ∷ tasks) others h = break_spares tasks others h
    break_spares (hands_back value ∷ tasks) others h = break_spares tasks others h

    pub continue_spares : (tasks : List Task) (others : Objects) → TasksSpare needs sets others tasks → TurnedSpares (after_continue objects memory tasks)
    continue_spares [] others h = tt
    continue_spares (again saved loop ∷ tasks) others h = (refl, h.1, h.2)
    continue_spares (ends_switch saved ∷ tasks) others h = continue_spares tasks saved h
    continue_spares (begins tree ∷ tasks) others h = continue_spares tasks others h.1
    continue_spares (declares declarator trees ∷ tasks) others h = continue_spares tasks others h.1
    continue_spares (initials at kind initialiser trees ∷ tasks) others h = continue_spares tasks others h.1
    continue_spares (evaluates place run use_of ∷ tasks) others h = continue_spares tasks others h.2
    continue_spares (tests saved loop ∷ tasks) others h = continue_spares tasks saved h.2
    continue_spares (ends saved ∷ tasks) others h = continue_spares tasks saved h
    continue_spares (leaves ∷ tasks) others h = continue_spares tasks others h
    continue_spares (skips ∷ tasks) others h = continue_spares tasks others h
    continue_spares (hands_back value ∷ tasks) others h = continue_spares tasks others h

  -- ---- loops, which go on without a step

  tested_spare : (saved : Objects) (loop : Loop) (rest : List Task) (condition : Option Tree) → LoopSpares needs sets loop → TasksSpare needs sets saved rest → TasksSpare needs sets saved (tested saved loop rest condition)
  tested_spare saved loop rest None l h = (l.2, (refl, l, h))
  tested_spare saved loop rest (Some tree) l h = (tt, l, h)

  continued_spare : (saved : Objects) (loop : Loop) (rest : List Task) (after : Option Tree) → LoopSpares needs sets loop → TasksSpare needs sets saved rest → TasksSpare needs sets saved (continued saved loop rest after)
  continued_spare saved loop rest None l h = tested_spare saved loop rest loop.condition l h
  continued_spare saved loop rest (Some tree) l h = (tt, l, h)

  pub unfolded_spare : (objects : Objects) (tasks : List Task) → TasksSpare needs sets objects tasks → TasksSpare needs sets objects (unfolded tasks)
  unfolded_spare objects (tests saved loop ∷ rest) h = subst (λ o. TasksSpare needs sets o (tested saved loop rest loop.condition)) (sym h.0) (tested_spare saved loop rest loop.condition h.1 h.2)
  unfolded_spare objects (again saved loop ∷ rest) h = subst (λ o. TasksSpare needs sets o (continued saved loop rest loop.after)) (sym h.0) (continued_spare saved loop rest loop.after h.1 h.2)
  unfolded_spare objects [] h = h
  unfolded_spare objects (begins tree ∷ rest) h = h
  unfolded_spare objects (declares declarator trees ∷ rest) h = h
  unfolded_spare objects (initials at kind initialiser trees ∷ rest) h = h
  unfolded_spare objects (evaluates place run use_of ∷ rest) h = h
  unfolded_spare objects (ends saved ∷ rest) h = h
  unfolded_spare objects (ends_switch saved ∷ rest) h = h
  unfolded_spare objects (leaves ∷ rest) h = h
  unfolded_spare objects (skips ∷ rest) h = h
  unfolded_spare objects (hands_back value ∷ rest) h = h
