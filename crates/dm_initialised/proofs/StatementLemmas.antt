-- Statements that begin, full expressions that end, and jumps leave tasks that stand where their objects are set.
use Rattle.std.specs.Prelude.{◌≡◌, refl, ◌⊎◌, ℕ, suc, Bool, true, false, not, List, [], ◌∷◌, ◌++◌, take, drop, Option, Some, None, if◌then◌else◌}
use Rattle.std.proofs.Common.{ap, sym, ◌∙◌, subst, inl, inr}
use Rattle.std.proofs.lemmas.Bool.{false≢true}
use Rattle.dm_token.specs.declared.place.Place.{Place}
use Rattle.dm_type.specs.CTypes.{CType}
use Rattle.dm_tree.specs.Scenes.{IsValue, is_lvalue}
use Rattle.dm_tree.specs.Trees.{Label, block as block_form, declare, full, if_statement, switch, case, default, while_loop, do_loop, for_loop, break, continue, return, is_statement, label_of, Spans, Tree, Trees, node, no_trees, more_trees, listed, Declarator, Initialiser, Initialisers, one_expression, in_braces, no_items, more_items, expressions_in}
use Rattle.dm_tree.specs.Typing.{IsStart, FitsLoop}
use Rattle.dm_meaning.specs.Among.{IsAmong}
use Rattle.dm_meaning.specs.Causes.{is_unset}
use Rattle.dm_meaning.specs.Values.{At, Value, integer_value, unset, numbered}
use Rattle.dm_meaning.specs.Memory.{Memory, contents_at, written, killed}
use Rattle.dm_meaning.specs.Programs.{Program, layout}
use Rattle.dm_meaning.specs.Operations.{Result, Objects, object_named, whole, part_of, Truth, holds, untold, truth_of}
use Rattle.dm_meaning.specs.Expressions.{value_of}
use Rattle.dm_meaning.specs.Running.{done}
use Rattle.dm_meaning.specs.States.{Loop, Use, drops, chooses, selects, repeats, continues, returns, initialises, Task, begins, declares, initials, evaluates, again, tests, ends, ends_switch, leaves, skips, hands_back}
use Rattle.dm_meaning.specs.Statements.{Turned, onward, refused, evaluation, is_automatic, declared_in, type_declared, named_since, named_from, made_from, items_tasks, unlabelled, entered, memory_entered, on_one_tree, on_first_tree, on_option_tree, on_tree_if, loop_with, begin_for, begin_form, begin_tree, begin_statement, initial_of, begin_declarator, part_tasks, count_items, value_listed, begin_initialiser, initial_value, has_case, has_default, from_first, or_items, selected_by, by_test, begins_one, concluded, tested, continued, unfolded, ended, after_break, after_continue}
use Rattle.dm_meaning.proofs.AmongLemmas.{among_left, among_right, among_either}
use Rattle.dm_meaning.proofs.OptionLemmas.{none_is_some, some_is_some, and_right}
use Rattle.dm_sound.specs.TypedValues.{IsSet, StaySet}
use Rattle.dm_sound.specs.TypedTrees.{IsTyped}
use Rattle.dm_sound.specs.TypedStates.{IsPlace, Fills, AllAreTyped, IsTypedIfThere, IsTypedLoop, TaskFits, TasksFit}
use Rattle.dm_sound.proofs.ComeLemmas.{AllTyped, typed_parts, begun_comes}
use Rattle.dm_sound.proofs.PlaceLemmas.{AreNewFrom}
use Rattle.dm_sound.proofs.SetLemmas.{stay_same, stay_written, stay_killed}
use Rattle.dm_sound.proofs.TaskLemmas.{all_listed, unlabelled_typed, selected_typed}
use Rattle.dm_effect.specs.Scoped.{Scope, declared_by, scopes_in_order}
use Rattle.dm_initialised.specs.Settled.{declared_in_parts, AreNew, AreOthers, IsSettled, AreSettled, IsSettledProgram}
use Rattle.dm_initialised.specs.SetStates.{AreSet, Within, NoObject, AllSettled, AllItems, Stands, StandsAlone, StandsIfThere, LoopStands, GivesWhole, GivesObject, IsUnderWay, IsSetBy, UseStands, TasksSet}
use Rattle.dm_initialised.proofs.ScopeLemmas.{within_same, within_other, set_within, stands_more, stands_other, tasks_more, set_later, tasks_later, taken_settled, dropped_settled, all_same}
use Rattle.dm_initialised.proofs.ObjectLemmas.{named_new, named_beside, stay_made, written_set}
use Rattle.dm_initialised.proofs.ItemLemmas.{items_there, items_back, item_set, items_set, chosen_set}

-- ---- trees that are settled

module _ (needs : ℕ → Bool) where
  unlabelled_settled : (scope : Scope) (tree : Tree) → IsSettled needs scope tree → IsSettled needs scope (unlabelled tree)
  unlabelled_settled scope (node case kind spans (more_trees value (more_trees statement rest))) h = unlabelled_settled scope statement h.2.1.0
  unlabelled_settled scope (node default kind spans (more_trees statement rest)) h = unlabelled_settled scope statement h.2.0
  unlabelled_settled scope tree h = h

  -- an expression declares nothing
  declares_nothing : (tree : Tree) → is_statement (label_of tree) ≡ false → declared_by tree ≡ []
  declares_nothing (node (declare lengths declarators) kind spans parts) h = absurd (false≢true (sym h))
  declares_nothing (node label kind spans parts) h = refl

  value_declares : (tree : Tree) → IsValue tree → declared_by tree ≡ []
  value_declares tree v = declares_nothing tree (not_true (is_statement (label_of tree)) (and_right (not (is_lvalue tree)) (not (is_statement (label_of tree))) v))
    where
      not_true : (b : Bool) → not b ≡ true → b ≡ false
      not_true true e = absurd (false≢true e)
      not_true false e = refl

  -- the parts of `for` behind its first stand in one scope
  for_settled : (second third : Bool) (scope : Scope) (parts : Trees) → FitsLoop false second third (listed parts) → AreSettled needs (scopes_in_order scope parts) parts → AllSettled needs scope (listed parts)
  for_settled true third scope no_trees f h = absurd f
  for_settled true third scope (more_trees condition rest) f h =
      (h.0, for_settled false third scope rest f.1 (subst (λ (ds : Scope). AreSettled needs (scopes_in_order (ds ++ scope) rest) rest) (value_declares condition f.0.0) h.1))
  for_settled false true scope no_trees f h = absurd f
  for_settled false true scope (more_trees last rest) f h =
      (h.0, for_settled false false scope rest f.1 (subst (λ (ds : Scope). AreSettled needs (scopes_in_order (ds ++ scope) rest) rest) (value_declares last f.0) h.1))
  for_settled false false scope no_trees f h = absurd f
  for_settled false false scope (more_trees body no_trees) f h = (h.0, tt)
  for_settled false false scope (more_trees body (more_trees other rest)) f h = absurd f

  -- the items that a switch selects
  first_items : (scope : Scope) (test : Tree → Bool) (items : List Tree) → AllItems needs scope items → (o : Option (List Tree)) → from_first test items ≡ o → (others : List Tree) → AllItems needs scope others
      → AllItems needs scope (or_items o others)
  first_items scope test [] h o e others k = subst (λ (p : Option (List Tree)). AllItems needs scope (or_items p others)) e k
  first_items scope test (item ∷ items) h o e others k = by_test_of (test item) e (first_items scope test items h.2 (from_first test items) refl others k)
    where
      by_test_of : (b : Bool) → (if b then Some (item ∷ items) else from_first test items) ≡ o → AllItems needs scope (or_items (from_first test items) others) → AllItems needs scope (or_items o others)
      by_test_of true f later = subst (λ (p : Option (List Tree)). AllItems needs scope (or_items p others)) f h
      by_test_of false f later = subst (λ (p : Option (List Tree)). AllItems needs scope (or_items p others)) f later

  selected_items : (program : Program) (scope : Scope) (value : Value) (items : List Tree) → AllItems needs scope items → AllItems needs scope (selected_by program value items)
  selected_items program scope (integer_value kind z) items h =
      first_items scope (has_case program z) items h (from_first (has_case program z) items) refl (or_items (from_first has_default items) [])
      (first_items scope has_default items h (from_first has_default items) refl [] tt)
  selected_items program scope value items h = tt

  all_items : (scope : Scope) (items : Trees) → AllSettled needs scope (listed items) → AreOthers needs (declared_in_parts items) → AllItems needs scope (listed items)
  all_items scope no_trees h o = tt
  all_items scope (more_trees first rest) h o =
      (h.0, (λ d n a. o d n (among_left d (declared_by first) (declared_in_parts rest) a)), all_items scope rest h.1 (λ d n a. o d n (among_right d (declared_by first) (declared_in_parts rest) a)))

  abbrev SettledIfThere : Scope → Option Tree → Type 0
  SettledIfThere scope None = Unit {0}
  SettledIfThere scope (Some tree) = IsSettled needs scope tree

  own_stands : (objects : Objects) (scope : Scope) (tree : Tree) → IsSettled needs scope tree → StandsAlone needs objects scope tree
  own_stands objects scope tree h = record { inner = scope; within = within_same needs objects scope NoObject; settled = (h, tt) }

  own_there : (objects : Objects) (scope : Scope) (o : Option Tree) → SettledIfThere scope o → StandsIfThere needs objects scope o
  own_there objects scope None h = tt
  own_there objects scope (Some tree) h = own_stands objects scope tree h

  own_loop : (objects : Objects) (scope : Scope) (loop : Loop) → SettledIfThere scope loop.condition → SettledIfThere scope loop.after → IsSettled needs scope loop.body → LoopStands needs objects scope loop
  own_loop objects scope loop c a b = (own_there objects scope loop.condition c, own_there objects scope loop.after a, own_stands objects scope loop.body b)

-- what holds of a statement's beginning, where it has as many parts as its form
module _ (program : Program) (needs : ℕ → Bool) (result : CType) (scope : Scope) (P : Turned → Type 0) where
  one_tree : (trees : List Tree) → AllAreTyped program result trees → AllSettled needs scope trees → (following : Tree → Turned) (otherwise : Turned) → ((x : Tree) → IsTyped program result x → IsSettled needs scope x → P (following x)) → P otherwise
      → P (on_one_tree trees following otherwise)
  one_tree [] t s following otherwise h k = k
  one_tree (x ∷ []) t s following otherwise h k = h x t.0 s.0
  one_tree (x ∷ y ∷ rest) t s following otherwise h k = k

  first_tree : (trees : List Tree) → AllAreTyped program result trees → AllSettled needs scope trees → (following : Tree → List Tree → Turned) (otherwise : Turned)
      → ((x : Tree) (xs : List Tree) → IsTyped program result x → IsSettled needs scope x → AllAreTyped program result xs → AllSettled needs scope xs → P (following x xs)) → P otherwise → P (on_first_tree trees following otherwise)
  first_tree [] t s following otherwise h k = k
  first_tree (x ∷ rest) t s following otherwise h k = h x rest t.0 s.0 t.1 s.1

  option_tree : (trees : List Tree) → AllAreTyped program result trees → AllSettled needs scope trees → (following : Option Tree → Turned) (otherwise : Turned) → P (following None)
      → ((x : Tree) → IsTyped program result x → IsSettled needs scope x → P (following (Some x))) → P otherwise → P (on_option_tree trees following otherwise)
  option_tree [] t s following otherwise none h k = none
  option_tree (x ∷ []) t s following otherwise none h k = h x t.0 s.0
  option_tree (x ∷ y ∷ rest) t s following otherwise none h k = k

  if_tree : (there : Bool) (trees : List Tree) → AllAreTyped program result trees → AllSettled needs scope trees → (following : Option Tree → List Tree → Turned) (otherwise : Turned)
      → ((x : Option Tree) (xs : List Tree) → SettledIfThere needs scope x → AllAreTyped program result xs → AllSettled needs scope xs → P (following x xs)) → P otherwise → P (on_tree_if there trees following otherwise)
  if_tree false trees t s following otherwise h k = h None trees tt t s
  if_tree true [] t s following otherwise h k = k
  if_tree true (x ∷ rest) t s following otherwise h k = h (Some x) rest s.0 t.1 s.1

module _ (program : Program) (needs : ℕ → Bool) (settled : IsSettledProgram needs program) (result : CType) (objects : Objects) (memory : Memory) where
  abbrev TasksIn : Scope → List Task → Type 0
  TasksIn scope tasks = TasksSet program needs memory result objects scope tasks

  -- what a step leaves in the frame stands where its objects are set, and no object is unset
  abbrev pub TurnedSet : Turned → Type 0
  TurnedSet (onward others tasks after) =
      StaySet memory after × (later : Scope) × AreSet needs after others later × TasksSet program needs after result others later tasks
  TurnedSet (refused cause place) = Unit {0}

  module _ (scope : Scope) (rest : List Task) (set : AreSet needs memory objects scope) (waits : TasksIn scope rest) where
    stays : (tasks : List Task) → TasksIn scope tasks → TurnedSet (onward objects tasks memory)
    stays tasks h = (stay_same memory, scope, set, h)

    ending : (later : Scope) → TasksIn later (ends objects ∷ rest)
    ending later = (scope, set, waits)

    nothing_left : TurnedSet (onward objects (ends objects ∷ rest) memory)
    nothing_left = stays (ends objects ∷ rest) (ending scope)

    -- ---- trees in a scope whose objects are set

    module _ (inner : Scope) (within : Within needs objects scope NoObject inner) where
      stands : (tree : Tree) → IsSettled needs inner tree → StandsAlone needs objects scope tree
      stands tree h = record { inner = inner; within = within; settled = (h, tt) }

      there_stands : (o : Option Tree) → SettledIfThere needs inner o → StandsIfThere needs objects scope o
      there_stands None h = tt
      there_stands (Some tree) h = stands tree h

      evaluated : (tree : Tree) (use_of : Use) (tasks : List Task) → IsTyped program result tree → IsSettled needs inner tree → UseStands needs objects scope use_of → TasksIn scope tasks → TasksIn scope (evaluation tree use_of ∷ tasks)
      evaluated tree use_of tasks t h u k = (
        record { tree = tree; typed = t; comes = begun_comes (layout program) tree; stands = stands_other needs objects scope NoObject (IsUnderWay use_of) (tree ∷ []) (λ n x. absurd x) (stands tree h); used = u },
        scope,
        within_same needs objects scope (IsSetBy use_of),
        k,
      )

      loop_stands : (loop : Loop) → SettledIfThere needs inner loop.condition → SettledIfThere needs inner loop.after → IsSettled needs inner loop.body → LoopStands needs objects scope loop
      loop_stands loop c a b = (there_stands loop.condition c, there_stands loop.after a, stands loop.body b)

    parts_typed : (label : Label) (kind : CType) (spans : Spans) (parts : Trees) → IsTyped program result (node label kind spans parts) → AllAreTyped program result (listed parts)
    parts_typed label kind spans parts t = all_listed program result parts (typed_parts program result label kind spans parts t)

    -- ---- what begins

    module _ (names : ℕ → ℕ) (distinct : (i j : ℕ) → names i ≡ names j → i ≡ j) (new : AreNewFrom program names distinct 0 memory) where
      -- objects that were set stay so where others are made
      set_inside : (inner : Scope) → Within needs objects scope NoObject inner → (ds : List ℕ) → ((d : ℕ) → needs d ≡ true → IsAmong d inner → IsAmong d ds → ⊥) → AreSet needs (made_from program names 0 ds memory) (named_from names 0 ds objects) inner
      set_inside inner within ds apart d n a =
          let s = set_within needs objects memory scope inner within set d n a in
          (s.0, named_beside names 0 ds objects d (apart d n a) ∙ s.1, stay_made program names distinct 0 ds memory new s.0 s.2)

      entered_set : (inner : Scope) → Within needs objects scope NoObject inner → (parts : Trees) → AllTyped program result parts → AreNew needs inner (declared_in_parts parts) → AreSettled needs (scopes_in_order inner parts) parts
          → TurnedSet (onward (entered program names (listed parts) objects) (items_tasks (listed parts) ++ ends objects ∷ rest) (memory_entered program names (listed parts) memory))
      entered_set inner within parts t anew h =
          let ds = declared_in program (listed parts) in
          let inside = entered program names (listed parts) objects in
          let after = memory_entered program names (listed parts) memory in
          let stay = stay_made program names distinct 0 ds memory new in (
            stay,
            inner,
            set_inside inner within ds (λ d n a b. anew d n (items_back program needs settled parts d b) a),
            items_set program needs settled after result inside parts t inner h (λ d n a. named_new names 0 ds objects d (items_there program needs settled parts inner h d n a)) (ends objects ∷ rest)
                (λ later. (scope, set_later program needs memory after stay objects scope set, tasks_later program needs memory after stay result rest objects scope waits)),
          )

      -- a loop, behind what stands in its first part
      started_set : (inner : Scope) → Within needs objects scope NoObject inner → (start : Tree) → IsStart start → IsTyped program result start → IsSettled needs inner start → AreNew needs inner (declared_by start)
          → (loop : Loop) → SettledIfThere needs (declared_by start ++ inner) loop.condition → SettledIfThere needs (declared_by start ++ inner) loop.after → IsSettled needs (declared_by start ++ inner) loop.body
          → TurnedSet (begin_for program names objects rest memory (Some start) loop)
      started_set inner within (node (declare lengths declarators) kind spans parts) is t h anew loop c a b =
          let start = node (declare lengths declarators) kind spans parts in
          let alone = more_trees start no_trees in
          let ds = declared_in program (start ∷ []) in
          let inside = entered program names (start ∷ []) objects in
          let after = memory_entered program names (start ∷ []) memory in
          let later = declared_by start ++ inner in
          let stay = stay_made program names distinct 0 ds memory new in (
            stay,
            inner,
            set_inside inner within ds (λ d n e f. anew d n (only_one start d (items_back program needs settled alone d f)) e),
            item_set program needs settled after result inside start t inner h
                (λ d n e. named_new names 0 ds objects d (items_there program needs settled alone inner (h, tt) d n (among_left d (declared_by start) [] e))) (tests inside loop ∷ ends objects ∷ rest)
                (refl, own_loop needs inside later loop c a b, (scope, set_later program needs memory after stay objects scope set, tasks_later program needs memory after stay result rest objects scope waits)),
          )
        where
          only_one : (start : Tree) (d : ℕ) → IsAmong d (declared_by start ++ []) → IsAmong d (declared_by start)
          only_one start d e = pick (among_either d (declared_by start) [] e)
            where
              pick : IsAmong d (declared_by start) ⊎ IsAmong d [] → IsAmong d (declared_by start)
              pick (inl f) = f
              pick (inr f) = absurd f
      started_set inner within (node label kind spans parts) is t h anew loop c a b =
          stays (evaluation (node label kind spans parts) drops ∷ tests objects loop ∷ ends objects ∷ rest)
          (evaluated inner within (node label kind spans parts) drops (tests objects loop ∷ ends objects ∷ rest) t h tt (refl, loop_stands inner within loop c a b, ending scope))

      loop_by : (inner : Scope) (start : Option Tree) (second third : Bool) (trees : List Tree) → AllAreTyped program result trees → AllSettled needs inner trees
          → ((loop : Loop) → SettledIfThere needs inner loop.condition → SettledIfThere needs inner loop.after → IsSettled needs inner loop.body → TurnedSet (begin_for program names objects rest memory start loop))
          → TurnedSet (on_tree_if second trees (λ condition seconds. on_tree_if third seconds (λ after thirds. on_one_tree thirds (λ body. begin_for program names objects rest memory start (loop_with condition after body))
          (onward objects (ends objects ∷ rest) memory)) (onward objects (ends objects ∷ rest) memory)) (onward objects (ends objects ∷ rest) memory))
      loop_by inner start second third trees t h k =
          if_tree program needs result inner TurnedSet second trees t h _ _
          (λ y ys c u i. if_tree program needs result inner TurnedSet third ys u i _ _
          (λ z zs a v j. one_tree program needs result inner TurnedSet zs v j _ _
          (λ body x b. k (loop_with y z body) c a b) nothing_left) nothing_left) nothing_left

      for_set : (inner : Scope) → Within needs objects scope NoObject inner → (first second third : Bool) (parts : Trees) → FitsLoop first second third (listed parts) → AllTyped program result parts → AreNew needs inner (declared_in_parts parts)
          → AreSettled needs (scopes_in_order inner parts) parts → TurnedSet (begin_form program names objects rest memory (for_loop first second third) (listed parts))
      for_set inner within false second third parts f t anew h =
          let all = for_settled needs second third inner parts f h in
          loop_by inner None second third (listed parts) (all_listed program result parts t) all
          (λ loop c a b. stays (tests objects loop ∷ ends objects ∷ rest) (refl, loop_stands inner within loop c a b, ending scope))
      for_set inner within true second third no_trees f t anew h = absurd f
      for_set inner within true second third (more_trees start parts) f t anew h =
          let later = declared_by start ++ inner in
          loop_by later (Some start) second third (listed parts) (all_listed program result parts t.1) (for_settled needs second third later parts f.1 h.1)
          (started_set inner within start f.0 t.0 h.0 (λ d n a. anew d n (among_left d (declared_by start) (declared_in_parts parts) a)))

      -- ---- statements

      return_set : (inner : Scope) → Within needs objects scope NoObject inner → (trees : List Tree) → AllAreTyped program result trees → AllSettled needs inner trees → TurnedSet (begin_form program names objects rest memory return trees)
      return_set inner within trees t h =
          option_tree program needs result inner TurnedSet trees t h _ _ (stays (hands_back unset ∷ []) tt) (λ x u i. stays (evaluation x returns ∷ []) (evaluated inner within x returns [] u i tt tt)) nothing_left

      form_set : (inner : Scope) → Within needs objects scope NoObject inner → (label : Label) (kind : CType) (spans : Spans) (parts : Trees) → IsTyped program result (node label kind spans parts) → IsSettled needs inner (node label kind spans parts)
          → TurnedSet (begin_form program names objects rest memory label (listed parts))
      form_set inner within block_form kind spans parts t h = entered_set inner within parts (typed_parts program result block_form kind spans parts t) h.1 h.2
      form_set inner within full kind spans parts t h =
          one_tree program needs result inner TurnedSet (listed parts) (parts_typed full kind spans parts t) (all_same needs inner parts h.2) _ _
          (λ x u i. stays (evaluation x drops ∷ ends objects ∷ rest) (evaluated inner within x drops (ends objects ∷ rest) u i tt (ending scope))) nothing_left
      form_set inner within if_statement kind spans parts t h =
          first_tree program needs result inner TurnedSet (listed parts) (parts_typed if_statement kind spans parts t) (all_same needs inner parts h.2) _ _
          (λ x xs u i v j. first_tree program needs result inner TurnedSet xs v j _ _
          (λ y ys w k a b. option_tree program needs result inner TurnedSet ys a b _ _
          (stays (evaluation x (chooses y None) ∷ ends objects ∷ rest) (evaluated inner within x (chooses y None) (ends objects ∷ rest) u i (stands inner within y k, tt) (ending scope)))
          (λ z c d. stays (evaluation x (chooses y (Some z)) ∷ ends objects ∷ rest) (evaluated inner within x (chooses y (Some z)) (ends objects ∷ rest) u i (stands inner within y k, stands inner within z d) (ending scope)))
          nothing_left) nothing_left) nothing_left
      form_set inner within switch kind spans no_trees t h = nothing_left
      form_set inner within switch kind spans (more_trees x items) t h =
          stays (evaluation x (selects (listed items)) ∷ ends_switch objects ∷ rest)
          (evaluated inner within x (selects (listed items)) (ends_switch objects ∷ rest) (typed_parts program result switch kind spans (more_trees x items) t).0 h.2.0
          (record { inner = inner; within = within; settled = all_items needs inner items (all_same needs inner items h.2.1) (λ d n a. h.1 d n (among_right d (declared_by x) (declared_in_parts items) a)) })
          (scope, set, waits))
      form_set inner within while_loop kind spans parts t h =
          first_tree program needs result inner TurnedSet (listed parts) (parts_typed while_loop kind spans parts t) (all_same needs inner parts h.2) _ _
          (λ x xs u i v j. one_tree program needs result inner TurnedSet xs v j _ _
          (λ y w k. stays (tests objects (loop_with (Some x) None y) ∷ ends objects ∷ rest) (refl, loop_stands inner within (loop_with (Some x) None y) i tt k, ending scope)) nothing_left) nothing_left
      form_set inner within do_loop kind spans parts t h =
          first_tree program needs result inner TurnedSet (listed parts) (parts_typed do_loop kind spans parts t) (all_same needs inner parts h.2) _ _
          (λ x xs u i v j. one_tree program needs result inner TurnedSet xs v j _ _
          (λ y w k. stays (begins x ∷ again objects (loop_with (Some y) None x) ∷ ends objects ∷ rest)
          (stands inner within x i, (refl, scope, set, loop_stands inner within (loop_with (Some y) None x) k tt i, ending scope))) nothing_left) nothing_left
      form_set inner within (for_loop first second third) kind spans parts t h =
          for_set inner within first second third parts t.typed.0.0 (typed_parts program result (for_loop first second third) kind spans parts t) h.1 h.2
      form_set inner within break kind spans parts t h = stays (leaves ∷ rest) waits
      form_set inner within continue kind spans parts t h = stays (skips ∷ rest) waits
      form_set inner within return kind spans parts t h = return_set inner within (listed parts) (parts_typed return kind spans parts t) (all_same needs inner parts h.2)
      form_set inner within label kind spans parts t h = nothing_left

      tree_set : (inner : Scope) → Within needs objects scope NoObject inner → (tree : Tree) → IsTyped program result tree → IsSettled needs inner tree → TurnedSet (begin_tree program names objects rest memory tree)
      tree_set inner within (node label kind spans parts) t h = form_set inner within label kind spans parts t h

      pub statement_set : (tree : Tree) → IsTyped program result tree → StandsAlone needs objects scope tree → TurnedSet (begin_statement program names objects rest memory tree)
      statement_set tree t s = tree_set s.inner s.within (unlabelled tree) (unlabelled_typed program result tree t) (unlabelled_settled needs s.inner tree s.settled.0)

  -- ---- declarators and initialisers

  module _ (scope : Scope) (rest : List Task) (set : AreSet needs memory objects scope) where
    -- nothing more is set
    behind : (later : Scope) (Other : ℕ → Type 0) → ((n : ℕ) → Other n → ⊥) → Within needs objects scope Other later → TasksIn later rest → TasksIn scope rest
    behind later Other none within k = tasks_more program needs memory result rest objects scope later (within_other needs objects scope Other NoObject later none within) k

    going_on : (tasks : List Task) → TasksIn scope tasks → TurnedSet (onward objects tasks memory)
    going_on tasks h = (stay_same memory, scope, set, h)

    pub declarator_set : (declarator : Declarator) (trees : List Tree) → TasksIn scope (declares declarator trees ∷ rest) → TurnedSet (begin_declarator program objects rest memory declarator trees)
    declarator_set declarator trees s = by_duration (is_automatic program declarator) refl
      where
        kind : CType
        kind = type_declared program declarator.declared

        tasks : List Task
        tasks = initial_of kind (object_named objects declarator.declared) declarator.initialiser trees

        without : ((n : ℕ) → GivesObject program objects declarator trees n → ⊥) → TurnedSet (onward objects rest memory)
        without none = going_on rest (behind s.1 (GivesObject program objects declarator trees) none s.2 s.3)

        by_initial : (o : Option ℕ) → object_named objects declarator.declared ≡ o → (i : Option Initialiser) → declarator.initialiser ≡ i → TurnedSet (onward objects (initial_of kind o i trees ++ rest) memory)
        by_initial None e i f = without (λ n g. none_is_some n (sym e ∙ g.0))
        by_initial (Some m) e None f = without (λ n g. none_is_some g.2 (sym f ∙ g.3))
        by_initial (Some m) e (Some i) f = going_on (initials (whole (numbered m)) kind i trees ∷ rest) (
          stands_other needs objects scope (λ k. k ≡ m) (λ k. numbered m ≡ numbered k) trees (λ k g. ap numbered (sym g)) (s.0 m e),
          s.1,
          within_other needs objects scope (GivesObject program objects declarator trees) (λ n. (whole (numbered m) ≡ whole (numbered n)) × GivesWhole i trees) s.1
              (λ n g. (ap (λ k. whole (numbered k)) (some_is_some m n (sym e ∙ g.0)), subst (λ (j : Initialiser). GivesWhole j trees) (sym (some_is_some i g.2 (sym f ∙ g.3))) g.4)) s.2,
          s.3,
        )

        by_duration : (b : Bool) → is_automatic program declarator ≡ b → TurnedSet (onward objects ((if b then tasks else []) ++ rest) memory)
        by_duration true e = by_initial (object_named objects declarator.declared) refl declarator.initialiser refl
        by_duration false e = without (λ n g. false≢true (sym e ∙ g.1))

    nil_one : (tree : Tree) → [] ≡ tree ∷ [] → ⊥
    nil_one tree e = cc

    two_one : (x y tree : Tree) (others : List Tree) → x ∷ y ∷ others ≡ tree ∷ [] → ⊥
    two_one x y tree others e = cc

    pub initialiser_set : (at : At) (kind : CType) (initialiser : Initialiser) (trees : List Tree) → IsPlace (layout program) memory at kind → Fills program result kind initialiser trees
        → TasksIn scope (initials at kind initialiser trees ∷ rest) → TurnedSet (begin_initialiser program objects rest memory at kind initialiser trees)
    initialiser_set at kind one_expression [] p f s = going_on rest (behind s.1 (λ n. (at ≡ whole (numbered n)) × GivesWhole one_expression []) (λ n g. nil_one g.1.0 g.1.1) s.2 s.3)
    initialiser_set at kind one_expression (tree ∷ []) p f s = going_on (evaluation tree (initialises at kind) ∷ rest) (
      record { tree = tree; typed = f.0; comes = begun_comes (layout program) tree; stands = s.0; used = tt },
      s.1,
      within_other needs objects scope (λ n. (at ≡ whole (numbered n)) × GivesWhole one_expression (tree ∷ [])) (IsSetBy (initialises at kind)) s.1 (λ n g. g.0) s.2,
      s.3,
    )
    initialiser_set at kind one_expression (x ∷ y ∷ others) p f s =
        going_on rest (behind s.1 (λ n. (at ≡ whole (numbered n)) × GivesWhole one_expression (x ∷ y ∷ others)) (λ n g. two_one x y g.1.0 others g.1.1) s.2 s.3)
    initialiser_set at kind (in_braces items) trees p f s = (
      stay,
      greater,
      greater_set,
      parts_set 0 items trees (stands_more needs objects greater scope (λ n. at.name ≡ numbered n) trees (λ d n a. inl (among_left d scope s.1 a)) s.0)
          (tasks_more program needs after result rest objects greater s.1 (λ d n a. inl (among_right d scope s.1 a)) (tasks_later program needs memory after stay result rest objects s.1 s.3)),
    )
      where
        value : Value
        value = value_listed (layout program) kind (count_items items) (contents_at memory at)

        after : Memory
        after = written memory at value

        stay : StaySet memory after
        stay = stay_written at value memory refl

        greater : Scope
        greater = scope ++ s.1

        place_set : (n : ℕ) → at ≡ whole (numbered n) → IsSet after n
        place_set n e =
            subst (λ (place : At). IsSet (written memory place value) n) (sym e) (written_set (layout program) memory n kind value (subst (λ (place : At). IsPlace (layout program) memory place kind) e p) refl)

        later_set : (d : ℕ) → needs d ≡ true → IsAmong d scope ⊎ ((n : ℕ) × (object_named objects d ≡ Some n) × ((at ≡ whole (numbered n)) × GivesWhole (in_braces items) trees)) → (n : ℕ) × (object_named objects d ≡ Some n) × IsSet after n
        later_set d n (inl a) = set_later program needs memory after stay objects scope set d n a
        later_set d n (inr g) = (g.0, g.1, place_set g.0 g.2.0)

        either_set : (d : ℕ) → needs d ≡ true → IsAmong d scope ⊎ IsAmong d s.1 → (n : ℕ) × (object_named objects d ≡ Some n) × IsSet after n
        either_set d n (inl a) = set_later program needs memory after stay objects scope set d n a
        either_set d n (inr a) = later_set d n (s.2 d n a)

        greater_set : AreSet needs after objects greater
        greater_set d n a = either_set d n (among_either d scope s.1 a)

        parts_set : (k : ℕ) (all : Initialisers) (these : List Tree) → Stands needs objects greater (λ n. at.name ≡ numbered n) these → TasksSet program needs after result objects greater rest
            → TasksSet program needs after result objects greater (part_tasks (layout program) at kind k all these ++ rest)
        parts_set k no_items these h w = w
        parts_set k (more_items item all) these h w =
            let count = expressions_in item in (
              record { inner = h.inner; within = h.within; settled = taken_settled needs h.inner count these h.settled },
              greater,
              within_same needs objects greater (λ n. (part_of at k ≡ whole (numbered n)) × GivesWhole item (take count these)),
              parts_set (suc k) all (drop count these) (record { inner = h.inner; within = h.within; settled = dropped_settled needs h.inner count these h.settled }) w,
            )

    -- ---- the end of a full expression

    tested_turned : (place : Place) (truth : Truth) (following : Bool → Turned) → ((b : Bool) → TurnedSet (following b)) → TurnedSet (by_test place truth following)
    tested_turned place (holds b) following h = h b
    tested_turned place (untold cause) following h = tt

    pub concluded_set : (place : Place) (use_of : Use) (kind : CType) (given : Result) (locks : List At) → TaskFits program memory result (evaluates place (done kind given locks) use_of)
        → TasksIn scope (evaluates place (done kind given locks) use_of ∷ rest) → TurnedSet (concluded program objects rest memory place use_of given)
    concluded_set place drops kind given locks h s = going_on rest (behind s.1 (IsSetBy drops) (λ n g. g) s.2 s.3)
    concluded_set place (chooses first second) kind given locks h s =
        tested_turned place (truth_of memory (value_of given)) _ (λ b. going_on (begins_one (if b then Some first else second) ++ rest) (chosen b second s.0.used.1 (behind s.1 (IsSetBy (chooses first second)) (λ n g. g) s.2 s.3)))
      where
        chosen : (b : Bool) (o : Option Tree) → StandsIfThere needs objects scope o → TasksIn scope rest → TasksIn scope (begins_one (if b then Some first else o) ++ rest)
        chosen true o u k = (s.0.used.0, k)
        chosen false None u k = k
        chosen false (Some tree) u k = (u, k)
    concluded_set place (selects items) kind given locks h s =
        let chosen = selected_by program (value_of given) items in
        let used = s.0.used in
        going_on (items_tasks chosen ++ rest)
        (chosen_set program needs settled memory result objects scope chosen (selected_typed program result (value_of given) items h.3) used.inner used.within (selected_items needs program used.inner (value_of given) items used.settled) rest
        (behind s.1 (IsSetBy (selects items)) (λ n g. g) s.2 s.3))
    concluded_set place (repeats loop) kind given locks h s =
        tested_turned place (truth_of memory (value_of given)) _ (λ b. going_on (if b then begins loop.body ∷ again objects loop ∷ rest else rest) (repeated b (behind s.1 (IsSetBy (repeats loop)) (λ n g. g) s.2 s.3)))
      where
        repeated : (b : Bool) → TasksIn scope rest → TasksIn scope (if b then begins loop.body ∷ again objects loop ∷ rest else rest)
        repeated true k = (s.0.used.2, (refl, scope, set, s.0.used, k))
        repeated false k = k
    concluded_set place (continues loop) kind given locks h s = going_on (tests objects loop ∷ rest) (refl, s.0.used, behind s.1 (IsSetBy (continues loop)) (λ n g. g) s.2 s.3)
    concluded_set place returns kind given locks h s = going_on (hands_back (value_of given) ∷ []) tt
    concluded_set place (initialises at type) kind given locks h s = (stay, s.1, gained, tasks_later program needs memory after stay result rest objects s.1 s.3)
      where
        value : Value
        value = initial_value type given

        was_set : is_unset value ≡ false
        was_set = (h.3.1 given h.2.1).1

        after : Memory
        after = written memory at value

        stay : StaySet memory after
        stay = stay_written at value memory was_set

        place_set : (n : ℕ) → at ≡ whole (numbered n) → IsSet after n
        place_set n e =
            subst (λ (there : At). IsSet (written memory there value) n) (sym e) (written_set (layout program) memory n type value (subst (λ (there : At). IsPlace (layout program) memory there type) e h.3.0) was_set)

        by_scope : (d : ℕ) → needs d ≡ true → IsAmong d scope ⊎ ((n : ℕ) × (object_named objects d ≡ Some n) × (at ≡ whole (numbered n))) → (n : ℕ) × (object_named objects d ≡ Some n) × IsSet after n
        by_scope d n (inl a) = set_later program needs memory after stay objects scope set d n a
        by_scope d n (inr g) = (g.0, g.1, place_set g.0 g.2)

        gained : AreSet needs after objects s.1
        gained d n a = by_scope d n (s.2 d n a)

  -- ---- what ends

  pub ended_set : (saved : Objects) (tasks : List Task) (later : Scope) → AreSet needs memory saved later → TasksSet program needs memory result saved later tasks → TurnedSet (ended saved objects tasks memory)
  ended_set saved tasks later s h =
      let dying = named_since saved objects in
      let after = killed dying memory in
      let stay = stay_killed dying memory in
      (stay, later, set_later program needs memory after stay saved later s, tasks_later program needs memory after stay result tasks saved later h)

  pub break_set : (tasks : List Task) (others : Objects) (scope : Scope) → TasksSet program needs memory result others scope tasks → TurnedSet (after_break objects memory tasks)
  break_set [] others scope h = (stay_same memory, [], (λ d n a. absurd a), tt)
  break_set (again saved loop ∷ tasks) others scope h = ended_set saved tasks h.1 h.2 h.4
  break_set (ends_switch saved ∷ tasks) others scope h = ended_set saved (ends_switch saved ∷ tasks) h.0 h.1 h
  break_set (begins tree ∷ tasks) others scope h = break_set tasks others scope h.1
  break_set (declares declarator trees ∷ tasks) others scope h = break_set tasks others h.1 h.3
  break_set (initials at kind initialiser trees ∷ tasks) others scope h = break_set tasks others h.1 h.3
  break_set (evaluates place run use_of ∷ tasks) others scope h = break_set tasks others h.1 h.3
  break_set (tests saved loop ∷ tasks) others scope h = break_set tasks saved scope h.2
  break_set (ends saved ∷ tasks) others scope h = break_set tasks saved h.0 h.2
  break_set (leaves ∷ tasks) others scope h = break_set tasks others scope h
  break_set (skips ∷ tasks) others scope h = break_set tasks others scope h
  break_set (hands_back value ∷ tasks) others scope h = break_set tasks others scope h

  pub continue_set : (tasks : List Task) (others : Objects) (scope : Scope) → TasksSet program needs memory result others scope tasks → TurnedSet (after_continue objects memory tasks)
  continue_set [] others scope h = (stay_same memory, [], (λ d n a. absurd a), tt)
  continue_set (again saved loop ∷ tasks) others scope h = ended_set saved (again saved loop ∷ tasks) h.1 h.2 (refl, h.1, h.2, h.3, h.4)
  continue_set (ends_switch saved ∷ tasks) others scope h = continue_set tasks saved h.0 h.2
  continue_set (begins tree ∷ tasks) others scope h = continue_set tasks others scope h.1
  continue_set (declares declarator trees ∷ tasks) others scope h = continue_set tasks others h.1 h.3
  continue_set (initials at kind initialiser trees ∷ tasks) others scope h = continue_set tasks others h.1 h.3
  continue_set (evaluates place run use_of ∷ tasks) others scope h = continue_set tasks others h.1 h.3
  continue_set (tests saved loop ∷ tasks) others scope h = continue_set tasks saved scope h.2
  continue_set (ends saved ∷ tasks) others scope h = continue_set tasks saved h.0 h.2
  continue_set (leaves ∷ tasks) others scope h = continue_set tasks others scope h
  continue_set (skips ∷ tasks) others scope h = continue_set tasks others scope h
  continue_set (hands_back value ∷ tasks) others scope h = continue_set tasks others scope h

  -- ---- loops, which go on without a step

  tested_set : (saved : Objects) (scope : Scope) (loop : Loop) (rest : List Task) (condition : Option Tree) → IsTypedIfThere program result condition → StandsIfThere needs saved scope condition → LoopStands needs saved scope loop
      → AreSet needs memory saved scope → TasksSet program needs memory result saved scope rest → TasksSet program needs memory result saved scope (tested saved loop rest condition)
  tested_set saved scope loop rest None t c l s h = (l.2, (refl, scope, s, l, h))
  tested_set saved scope loop rest (Some tree) t c l s h = (
    record { tree = tree; typed = t; comes = begun_comes (layout program) tree; stands = stands_other needs saved scope NoObject (IsUnderWay (repeats loop)) (tree ∷ []) (λ n x. absurd x) c; used = l },
    scope,
    within_same needs saved scope (IsSetBy (repeats loop)),
    h,
  )

  continued_set : (saved : Objects) (scope : Scope) (loop : Loop) (rest : List Task) (after : Option Tree) → IsTypedLoop program result loop → IsTypedIfThere program result after → StandsIfThere needs saved scope after
      → LoopStands needs saved scope loop → AreSet needs memory saved scope → TasksSet program needs memory result saved scope rest → TasksSet program needs memory result saved scope (continued saved loop rest after)
  continued_set saved scope loop rest None t u c l s h = tested_set saved scope loop rest loop.condition t.0 l.0 l s h
  continued_set saved scope loop rest (Some tree) t u c l s h = (
    record { tree = tree; typed = u; comes = begun_comes (layout program) tree; stands = stands_other needs saved scope NoObject (IsUnderWay (continues loop)) (tree ∷ []) (λ n x. absurd x) c; used = l },
    scope,
    within_same needs saved scope (IsSetBy (continues loop)),
    h,
  )

  -- a scope whose objects are set, and what is left to do in it
  pub record Set (tasks : List Task) : Type 0 where
    pub scope : Scope
    pub set : AreSet needs memory objects scope
    pub waits : TasksSet program needs memory result objects scope tasks

  pub unfolded_set : (tasks : List Task) → TasksFit program memory result tasks → Set tasks → Set (unfolded tasks)
  unfolded_set (tests saved loop ∷ rest) t s =
      let here = subst (λ (o : Objects). AreSet needs memory o s.scope) s.waits.0 s.set in
      record {
        scope = s.scope;
        set = s.set;
        waits = subst (λ (o : Objects). TasksSet program needs memory result o s.scope (tested saved loop rest loop.condition)) (sym s.waits.0)
            (tested_set saved s.scope loop rest loop.condition t.0.1.0 s.waits.1.0 s.waits.1 here s.waits.2);
      }
  unfolded_set (again saved loop ∷ rest) t s = record {
    scope = s.waits.1;
    set = subst (λ (o : Objects). AreSet needs memory o s.waits.1) (sym s.waits.0) s.waits.2;
    waits = subst (λ (o : Objects). TasksSet program needs memory result o s.waits.1 (continued saved loop rest loop.after)) (sym s.waits.0)
        (continued_set saved s.waits.1 loop rest loop.after t.0.1 t.0.1.1 s.waits.3.1 s.waits.3 s.waits.2 s.waits.4);
  }
  unfolded_set [] t s = s
  unfolded_set (begins tree ∷ rest) t s = s
  unfolded_set (declares declarator trees ∷ rest) t s = s
  unfolded_set (initials at kind initialiser trees ∷ rest) t s = s
  unfolded_set (evaluates place run use_of ∷ rest) t s = s
  unfolded_set (ends saved ∷ rest) t s = s
  unfolded_set (ends_switch saved ∷ rest) t s = s
  unfolded_set (leaves ∷ rest) t s = s
  unfolded_set (skips ∷ rest) t s = s
  unfolded_set (hands_back value ∷ rest) t s = s
