-- The steps of statements and declarations leave what is typed.
use Rattle.std.specs.Prelude.{◌≡◌, refl, ℕ, suc, Bool, true, false, not, IsTrue, List, [], ◌∷◌, ◌++◌, drop, map, Option, Some, None, if◌then◌else◌}
use Rattle.std.proofs.Common.{ap, sym, ◌∙◌, subst}
use Rattle.std.proofs.lemmas.Bool.{false≢true}
use Rattle.dm_token.specs.declared.place.Place.{Place}
use Rattle.dm_type.specs.CTypes.{CType, array, const, bare}
use Rattle.dm_tree.specs.Composites.{covers}
use Rattle.dm_tree.specs.Scenes.{IsValue, is_lvalue}
use Rattle.dm_tree.specs.Trees.{Label, block as block_form, declare, full, if_statement, switch, case, default, while_loop, do_loop, for_loop, break, continue, return, Spans, Tree, Trees, node, no_trees, more_trees, listed, kind_of, Declarator, Initialiser, Initialisers, one_expression, in_braces, no_items, more_items, expressions_in}
use Rattle.dm_tree.specs.Typing.{IsStart, FitsLoop}
use Rattle.dm_tree.proofs.ExpressionLemmas.{value-expression}
use Rattle.dm_meaning.specs.Values.{At, Value, integer_value, unset}
use Rattle.dm_meaning.specs.Objects.{Layout, is_array, inner_type}
use Rattle.dm_meaning.specs.Memory.{Memory, contents_at, written, killed}
use Rattle.dm_meaning.specs.Programs.{Program, layout}
use Rattle.dm_meaning.specs.Operations.{Result, of_value, designates, Objects, object_named, Truth, holds, untold, truth_of}
use Rattle.dm_meaning.specs.Expressions.{value_of}
use Rattle.dm_meaning.specs.States.{Loop, Use, drops, chooses, selects, repeats, continues, returns, initialises, Task, begins, declares, again, tests, ends, ends_switch, leaves, skips, hands_back}
use Rattle.dm_meaning.specs.Statements.{Turned, onward, refused, evaluation, is_automatic, declared_in, type_declared, named_since, Local, with_expressions, item_tasks, items_tasks, unlabelled, entered, memory_entered, start_tasks, as_list, on_one_tree, on_tree_if, loop_with, begin_for, begin_form, begin_tree, begin_statement, initial_of, begin_declarator, part_tasks, count_items, value_listed, begin_initialiser, initial_value, has_case, has_default, from_first, or_items, selected_by, by_test, begins_one, concluded, tested, continued, unfolded, ended, after_break, after_continue}
use Rattle.dm_meaning.specs.Wholes.{is_expression}
use Rattle.dm_meaning.proofs.WholeLemmas.{typed-expression}
use Rattle.dm_sound.specs.TypedValues.{own_type, HasType, IsGiven, AreTyped}
use Rattle.dm_sound.specs.TypedTrees.{IsSoundTable, scene_in, IsTyped}
use Rattle.dm_sound.specs.TypedSteps.{IsResult}
use Rattle.dm_sound.specs.TypedStates.{IsOfKind, AreNamed, IsPlace, Fills, FillParts, FillsIfThere, AllAreTyped, IsTypedIfThere, IsConditionIfThere, IsExpressionIfThere, IsTypedLoop, UseFits, TaskFits, TasksFit}
use Rattle.dm_sound.proofs.ValueLemmas.{own_bare, has_own, AreLike, has_like, covered_like, like_whole, back_like}
use Rattle.dm_sound.proofs.AccessLemmas.{contents_there, typed_written}
use Rattle.dm_sound.proofs.GivenLemmas.{void_given, like_values}
use Rattle.dm_sound.proofs.ComeLemmas.{AllTyped, typed_parts, begun_comes}
use Rattle.dm_sound.proofs.OperateLemmas.{value_no_lvalue}
use Rattle.dm_sound.proofs.FirstLemmas.{typed_made, typed_killed}
use Rattle.dm_sound.proofs.ListedLemmas.{listed_has}
use Rattle.dm_sound.proofs.PlaceLemmas.{Keeps, keeps_same, keeps_written, keeps_killed, named_later, named_there, AreNewFrom, made_keeps, made_named, place_later, whole_place, part_place, tasks_later}

module _ (program : Program) (result : CType) where
  -- ---- trees

  pub all_listed : (trees : Trees) → AllTyped program result trees → AllAreTyped program result (listed trees)
  all_listed no_trees h = tt
  all_listed (more_trees first rest) h = (h.0, all_listed rest h.1)

  pub unlabelled_typed : (tree : Tree) → IsTyped program result tree → IsTyped program result (unlabelled tree)
  unlabelled_typed (node case kind spans (more_trees value (more_trees statement rest))) h = unlabelled_typed statement (typed_parts program result case kind spans (more_trees value (more_trees statement rest)) h).1.0
  unlabelled_typed (node default kind spans (more_trees statement rest)) h = unlabelled_typed statement (typed_parts program result default kind spans (more_trees statement rest) h).0
  unlabelled_typed tree h = h

  -- ---- switch

  first_typed : (test : Tree → Bool) (items : List Tree) → AllAreTyped program result items → (o : Option (List Tree)) → from_first test items ≡ o → (others : List Tree) → AllAreTyped program result others
      → AllAreTyped program result (or_items o others)
  first_typed test [] h o e others k = subst (λ (p : Option (List Tree)). AllAreTyped program result (or_items p others)) e k
  first_typed test (item ∷ items) h o e others k = by_test_of (test item) e (first_typed test items h.1 (from_first test items) refl others k)
    where
      by_test_of : (b : Bool) → (if b then Some (item ∷ items) else from_first test items) ≡ o → AllAreTyped program result (or_items (from_first test items) others) → AllAreTyped program result (or_items o others)
      by_test_of true f later = subst (λ (p : Option (List Tree)). AllAreTyped program result (or_items p others)) f h
      by_test_of false f later = subst (λ (p : Option (List Tree)). AllAreTyped program result (or_items p others)) f later

  pub selected_typed : (value : Value) (items : List Tree) → AllAreTyped program result items → AllAreTyped program result (selected_by program value items)
  selected_typed (integer_value kind z) items h =
      first_typed (has_case program z) items h (from_first (has_case program z) items) refl (or_items (from_first has_default items) [])
      (first_typed has_default items h (from_first has_default items) refl [] tt)
  selected_typed value items h = tt

  -- ---- tasks

  tasks_joined : (memory : Memory) (tasks rest : List Task) → TasksFit program memory result tasks → TasksFit program memory result rest → TasksFit program memory result (tasks ++ rest)
  tasks_joined memory [] rest h k = k
  tasks_joined memory (task ∷ tasks) rest h k = (h.0, tasks_joined memory tasks rest h.1 k)

  -- no statement is in a typed value
  value_whole : (tree : Tree) → IsTyped program result tree → IsValue tree → is_expression tree ≡ true
  value_whole tree t v = typed-expression (scene_in program result t.breaks t.continues t.labels) tree t.typed (value-expression tree v)

  evaluation_fits : (memory : Memory) (tree : Tree) (use_of : Use) → IsTyped program result tree → UseFits program memory result tree use_of → IsTrue (is_expression tree) → TaskFits program memory result (evaluation tree use_of)
  evaluation_fits memory tree use_of t u is = (tree, t, begun_comes (layout program) tree, u, is)

  tested_fits : (memory : Memory) (saved : Objects) (loop : Loop) (rest : List Task) (condition : Option Tree) → IsTypedIfThere program result condition → IsConditionIfThere condition → AreNamed program memory saved → IsTypedLoop program result loop
      → TasksFit program memory result rest → TasksFit program memory result (tested saved loop rest condition)
  tested_fits memory saved loop rest None c e n l h = (l.2, ((n, l), h))
  tested_fits memory saved loop rest (Some tree) c e n l h = (evaluation_fits memory tree (repeats loop) c (l, e) (value_whole tree c e.0), h)

  continued_fits : (memory : Memory) (saved : Objects) (loop : Loop) (rest : List Task) (after : Option Tree) → IsTypedIfThere program result after → IsExpressionIfThere after → AreNamed program memory saved → IsTypedLoop program result loop
      → TasksFit program memory result rest → TasksFit program memory result (continued saved loop rest after)
  continued_fits memory saved loop rest None a e n l h = tested_fits memory saved loop rest loop.condition l.0 l.3 n l h
  continued_fits memory saved loop rest (Some tree) a e n l h = (evaluation_fits memory tree (continues loop) a l e, h)

  pub unfolded_fit : (memory : Memory) (tasks : List Task) → TasksFit program memory result tasks → TasksFit program memory result (unfolded tasks)
  unfolded_fit memory (tests saved loop ∷ rest) h = tested_fits memory saved loop rest loop.condition h.0.1.0 h.0.1.3 h.0.0 h.0.1 h.1
  unfolded_fit memory (again saved loop ∷ rest) h = continued_fits memory saved loop rest loop.after h.0.1.1 h.0.1.4 h.0.0 h.0.1 h.1
  unfolded_fit memory tasks h = h

-- ---- values that are returned

given_like : (laid : Layout) (a b : CType) → AreLike (own_type a) (own_type b) → (value : Value) → IsGiven laid a value → IsTrue (not (is_array (own_type b))) → IsGiven laid b value
given_like laid a b like value given w = record {
  typed = has_like laid a b like value given.typed;
  set = λ h. given.set (like_values (own_type b) (own_type a) (back_like (own_type a) (own_type b) like) h);
  whole = w;
}

-- a value of a type is one of a type that says more
given_covered : (laid : Layout) (a b : CType) → IsTrue (covers a b) → (value : Value) → IsGiven laid b value → IsGiven laid a value
given_covered laid a b c value given =
    let like = covered_like a b c given.whole in
    given_like laid b a (back_like (own_type a) (own_type b) like) value given (like_whole (own_type a) (own_type b) like given.whole)

cover_whole : (a b : CType) → covers a b ≡ true → IsTrue (not (is_array (own_type a))) → IsTrue (not (is_array (own_type b)))
cover_whole (const a) (const b) c w = cover_whole a b c w
cover_whole (array a m) (array b n) c w = absurd (false≢true w)
cover_whole a (array b n) c w = absurd (false≢true c)
cover_whole a (const b) c w = absurd (false≢true c)
cover_whole a b c w = refl

-- and the other way round, whatever const the types have
pub given_back : (laid : Layout) (a b : CType) → IsTrue (covers a b) → (value : Value) → IsGiven laid (bare a) value → IsGiven laid (bare b) value
given_back laid a b c value given =
    let whole_a : IsTrue (not (is_array (own_type a))) = subst (λ (t : CType). IsTrue (not (is_array t))) (own_bare a) given.whole in
    let whole_b = cover_whole a b c whole_a in
    let like = covered_like a b c whole_b in
    given_like laid (bare a) (bare b) (subst (λ (t : CType). AreLike t (own_type (bare b))) (sym (own_bare a)) (subst (λ (t : CType). AreLike (own_type a) t) (sym (own_bare b)) like)) value given
    (subst (λ (t : CType). IsTrue (not (is_array t))) (sym (own_bare b)) whole_b)

-- ---- declarators that fit

abbrev pub LocalsFit : Program → CType → List Local → Type 0
LocalsFit program result [] = Unit {0}
LocalsFit program result (local ∷ locals) =
    FillsIfThere program result (type_declared program local.declarator.declared) local.declarator.initialiser local.expressions × LocalsFit program result locals

-- the first part of `for`
abbrev IsStartIfThere : Option Tree → Type 0
IsStartIfThere None = Unit {0}
IsStartIfThere (Some tree) = IsStart tree

abbrev pub DeclaresFill : Program → CType → Type 0
DeclaresFill program result =
    (lengths : ℕ) (declarators : List Declarator) (kind : CType) (spans : Spans) (parts : Trees) → IsTyped program result (node (declare lengths declarators) kind spans parts)
    → LocalsFit program result (with_expressions declarators (drop lengths (listed parts)))

module _ (program : Program) (sound : IsSoundTable program.table) (result : CType) (fills : DeclaresFill program result) where
  locals_fit : (memory : Memory) (locals : List Local) → LocalsFit program result locals → TasksFit program memory result (map (λ (local : Local). declares local.declarator local.expressions) locals)
  locals_fit memory [] h = tt
  locals_fit memory (local ∷ locals) h = (h.0, locals_fit memory locals h.1)

  item_fits : (memory : Memory) (tree : Tree) → IsTyped program result tree → TasksFit program memory result (item_tasks tree)
  item_fits memory (node (declare lengths declarators) kind spans parts) t = locals_fit memory (with_expressions declarators (drop lengths (listed parts))) (fills lengths declarators kind spans parts t)
  item_fits memory (node label kind spans parts) t = (t, tt)

  pub items_fit : (memory : Memory) (items : List Tree) → AllAreTyped program result items → TasksFit program memory result (items_tasks items)
  items_fit memory [] h = tt
  items_fit memory (item ∷ items) h = tasks_joined program result memory (item_tasks item) (items_tasks items) (item_fits memory item h.0) (items_fit memory items h.1)

  start_fits : (memory : Memory) (start : Option Tree) → IsTypedIfThere program result start → IsStartIfThere start → TasksFit program memory result (start_tasks start)
  start_fits memory None h is = tt
  start_fits memory (Some (node (declare lengths declarators) kind spans parts)) h is = item_fits memory (node (declare lengths declarators) kind spans parts) h
  start_fits memory (Some (node label kind spans parts)) h is =
      (evaluation_fits program result memory (node label kind spans parts) drops h tt (value_whole program result (node label kind spans parts) h is), tt)

  -- what a step leaves in a frame is typed
  module _ (objects : Objects) (rest : List Task) (memory : Memory) (typed : AreTyped (layout program) memory) (named : AreNamed program memory objects) (waits : TasksFit program memory result rest) where
    abbrev pub TurnedFits : Turned → Type 0
    TurnedFits (onward others tasks after) = AreTyped (layout program) after × Keeps memory after × AreNamed program after others × TasksFit program after result tasks
    TurnedFits (refused cause place) = Unit {0}

    stays : (tasks : List Task) → TasksFit program memory result tasks → TurnedFits (onward objects tasks memory)
    stays tasks h = (typed, keeps_same memory, named, h)

    then_ends : (tasks : List Task) → TasksFit program memory result tasks → TurnedFits (onward objects (tasks ++ ends objects ∷ rest) memory)
    then_ends tasks h = stays (tasks ++ ends objects ∷ rest) (tasks_joined program result memory tasks (ends objects ∷ rest) h (named, waits))

    -- ---- what begins

    module _ (names : ℕ → ℕ) (distinct : (i j : ℕ) → names i ≡ names j → i ≡ j) (new : AreNewFrom program names distinct 0 memory) where
      entered_fits : (items : List Tree) (tasks : List Task) → TasksFit program (memory_entered program names items memory) result tasks
          → TurnedFits (onward (entered program names items objects) (tasks ++ ends objects ∷ rest) (memory_entered program names items memory))
      entered_fits items tasks h =
          let ds = declared_in program items in
          let after = memory_entered program names items memory in
          let keeps = made_keeps program names distinct 0 ds memory new in (
            typed_made program sound names 0 ds memory typed,
            keeps,
            made_named program names distinct 0 ds objects memory new named,
            tasks_joined program result after tasks (ends objects ∷ rest) h (named_later program memory after keeps objects named, tasks_later program memory after keeps result rest waits),
          )

      loop_fits : (start : Option Tree) (loop : Loop) → IsTypedIfThere program result start → IsStartIfThere start → IsTypedLoop program result loop → TurnedFits (begin_for program names objects rest memory start loop)
      loop_fits start loop s is l =
          let ds = declared_in program (as_list start) in
          let after = memory_entered program names (as_list start) memory in
          let keeps = made_keeps program names distinct 0 ds memory new in
          let inside = made_named program names distinct 0 ds objects memory new named in (
            typed_made program sound names 0 ds memory typed,
            keeps,
            inside,
            tasks_joined program result after (start_tasks start) (tests (entered program names (as_list start) objects) loop ∷ ends objects ∷ rest) (start_fits after start s is)
                ((inside, l), (named_later program memory after keeps objects named, tasks_later program memory after keeps result rest waits)),
          )

      returned_fits : (kind : CType) (spans : Spans) (parts : Trees) → IsTyped program result (node return kind spans parts) → TurnedFits (begin_form program names objects rest memory return (listed parts))
      returned_fits kind spans no_trees t = stays (hands_back unset ∷ []) (subst (λ (r : CType). IsGiven (layout program) r unset) (sym t.typed.0.0) (void_given (layout program)), tt)
      returned_fits kind spans (more_trees x no_trees) t =
          stays (evaluation x returns ∷ []) (evaluation_fits program result memory x returns (typed_parts program result return kind spans (more_trees x no_trees) t).0 (value_no_lvalue x t.typed.0.0.0, t.typed.0.0.1) (value_whole program result x (typed_parts program result return kind spans (more_trees x no_trees) t).0 t.typed.0.0.0), tt)
      returned_fits kind spans (more_trees x (more_trees y ys)) t = then_ends [] tt

      -- the parts of `for` behind the first
      for_fits : (start : Option Tree) → IsTypedIfThere program result start → IsStartIfThere start → (second third : Bool) (trees : List Tree) → FitsLoop false second third trees → AllAreTyped program result trees
          → TurnedFits (on_tree_if second trees (λ condition seconds. on_tree_if third seconds (λ after thirds. on_one_tree thirds (λ body. begin_for program names objects rest memory start (loop_with condition after body))
          (onward objects (ends objects ∷ rest) memory)) (onward objects (ends objects ∷ rest) memory)) (onward objects (ends objects ∷ rest) memory))
      for_fits start s is true true (x ∷ y ∷ body ∷ []) f h =
          loop_fits start (loop_with (Some x) (Some y) body) s is (h.0, h.1.0, h.1.1.0, f.0, value_whole program result y h.1.0 f.1.0)
      for_fits start s is true true [] f h = absurd f
      for_fits start s is true true (x ∷ []) f h = absurd f.1
      for_fits start s is true true (x ∷ y ∷ []) f h = absurd f.1.1
      for_fits start s is true true (x ∷ y ∷ body ∷ other ∷ others) f h = absurd f.1.1
      for_fits start s is true false (x ∷ body ∷ []) f h = loop_fits start (loop_with (Some x) None body) s is (h.0, tt, h.1.0, f.0, tt)
      for_fits start s is true false [] f h = absurd f
      for_fits start s is true false (x ∷ []) f h = absurd f.1
      for_fits start s is true false (x ∷ body ∷ other ∷ others) f h = absurd f.1
      for_fits start s is false true (y ∷ body ∷ []) f h = loop_fits start (loop_with None (Some y) body) s is (tt, h.0, h.1.0, tt, value_whole program result y h.0 f.0)
      for_fits start s is false true [] f h = absurd f
      for_fits start s is false true (y ∷ []) f h = absurd f.1
      for_fits start s is false true (y ∷ body ∷ other ∷ others) f h = absurd f.1
      for_fits start s is false false (body ∷ []) f h = loop_fits start (loop_with None None body) s is (tt, tt, h.0, tt, tt)
      for_fits start s is false false [] f h = absurd f
      for_fits start s is false false (body ∷ other ∷ others) f h = absurd f

      form_fits : (label : Label) (kind : CType) (spans : Spans) (parts : Trees) → IsTyped program result (node label kind spans parts) → AllAreTyped program result (listed parts)
          → TurnedFits (begin_form program names objects rest memory label (listed parts))
      form_fits block_form kind spans parts t h = entered_fits (listed parts) (items_tasks (listed parts)) (items_fit (memory_entered program names (listed parts) memory) (listed parts) h)
      form_fits full kind spans (more_trees x no_trees) t h = then_ends (evaluation x drops ∷ []) (evaluation_fits program result memory x drops h.0 tt (value_whole program result x h.0 t.typed.0.0), tt)
      form_fits full kind spans parts t h = absurd t.typed.0.0
      form_fits if_statement kind spans (more_trees x (more_trees y no_trees)) t h =
          then_ends (evaluation x (chooses y None) ∷ []) (evaluation_fits program result memory x (chooses y None) h.0 (h.1.0, tt, t.typed.0.0.0) (value_whole program result x h.0 t.typed.0.0.0.0), tt)
      form_fits if_statement kind spans (more_trees x (more_trees y (more_trees z no_trees))) t h =
          then_ends (evaluation x (chooses y (Some z)) ∷ []) (evaluation_fits program result memory x (chooses y (Some z)) h.0 (h.1.0, h.1.1.0, t.typed.0.0.0) (value_whole program result x h.0 t.typed.0.0.0.0), tt)
      form_fits if_statement kind spans parts t h = absurd t.typed.0.0
      form_fits switch kind spans (more_trees x items) t h =
          stays (evaluation x (selects (listed items)) ∷ ends_switch objects ∷ rest) (evaluation_fits program result memory x (selects (listed items)) h.0 h.1 (value_whole program result x h.0 t.typed.0.0.0), (named, waits))
      form_fits switch kind spans no_trees t h = absurd t.typed.0.0
      form_fits while_loop kind spans (more_trees x (more_trees y no_trees)) t h =
          then_ends (tests objects (loop_with (Some x) None y) ∷ []) ((named, (h.0, tt, h.1.0, t.typed.0.0.0, tt)), tt)
      form_fits while_loop kind spans parts t h = absurd t.typed.0.0
      form_fits do_loop kind spans (more_trees x (more_trees y no_trees)) t h =
          then_ends (begins x ∷ again objects (loop_with (Some y) None x) ∷ []) (h.0, ((named, (h.1.0, tt, h.0, t.typed.0.0.1, tt)), tt))
      form_fits do_loop kind spans parts t h = absurd t.typed.0.0
      form_fits (for_loop false second third) kind spans parts t h = for_fits None tt tt second third (listed parts) t.typed.0.0 h
      form_fits (for_loop true second third) kind spans (more_trees start parts) t h = for_fits (Some start) h.0 t.typed.0.0.0 second third (listed parts) t.typed.0.0.1 h.1
      form_fits (for_loop true second third) kind spans no_trees t h = absurd t.typed.0.0
      form_fits break kind spans parts t h = stays (leaves ∷ rest) (tt, waits)
      form_fits continue kind spans parts t h = stays (skips ∷ rest) (tt, waits)
      form_fits return kind spans parts t h = returned_fits kind spans parts t
      form_fits label kind spans parts t h = then_ends [] tt

      tree_fits : (tree : Tree) → IsTyped program result tree → TurnedFits (begin_tree program names objects rest memory tree)
      tree_fits (node label kind spans parts) t = form_fits label kind spans parts t (all_listed program result parts (typed_parts program result label kind spans parts t))

      pub statement_fits : (tree : Tree) → IsTyped program result tree → TurnedFits (begin_statement program names objects rest memory tree)
      statement_fits tree t = tree_fits (unlabelled tree) (unlabelled_typed program result tree t)

    -- ---- declarators and initialisers

    declared_fits : (kind : CType) (o : Option ℕ) → ((n : ℕ) → o ≡ Some n → IsOfKind memory n kind) → (initialiser : Option Initialiser) (trees : List Tree) → FillsIfThere program result kind initialiser trees
        → TasksFit program memory result (initial_of kind o initialiser trees)
    declared_fits kind None h initialiser trees f = tt
    declared_fits kind (Some n) h None trees f = tt
    declared_fits kind (Some n) h (Some initialiser) trees f = ((whole_place (layout program) memory n kind (h n refl), f), tt)

    pub declarator_fits : (declarator : Declarator) (trees : List Tree) → FillsIfThere program result (type_declared program declarator.declared) declarator.initialiser trees
        → TurnedFits (begin_declarator program objects rest memory declarator trees)
    declarator_fits declarator trees f = by_sort (is_automatic program declarator)
      where
        kind : CType
        kind = type_declared program declarator.declared

        tasks : List Task
        tasks = initial_of kind (object_named objects declarator.declared) declarator.initialiser trees

        by_sort : (b : Bool) → TurnedFits (onward objects ((if b then tasks else []) ++ rest) memory)
        by_sort true = stays (tasks ++ rest) (tasks_joined program result memory tasks rest (declared_fits kind (object_named objects declarator.declared) (named_there program memory objects named declarator.declared) declarator.initialiser trees f) waits)
        by_sort false = stays rest waits

    parts_fit : (after : Memory) (at : At) (kind : CType) → IsPlace (layout program) after at kind → (n : ℕ) (items : Initialisers) (trees : List Tree) → FillParts program result (bare kind) n items trees
        → TasksFit program after result (part_tasks (layout program) at kind n items trees)
    parts_fit after at kind h n no_items trees f = tt
    parts_fit after at kind h n (more_items item items) trees f =
        ((part_place (layout program) after at kind h n (inner_type (layout program) (bare kind) n) f.0, f.1), parts_fit after at kind h (suc n) items (drop (expressions_in item) trees) f.2)

    place_has : (at : At) (kind : CType) → IsPlace (layout program) memory at kind → HasType (layout program) kind (contents_at memory at)
    place_has at kind h = has_own (layout program) (bare kind) kind (own_bare kind) (contents_at memory at) (contents_there (layout program) memory typed at (bare kind) h.0 h.1)

    stored_typed : (at : At) (kind : CType) → IsPlace (layout program) memory at kind → (value : Value) → HasType (layout program) kind value → AreTyped (layout program) (written memory at value)
    stored_typed at kind h value k = typed_written (layout program) memory typed at (bare kind) h.0 h.1 value (has_own (layout program) kind (bare kind) (sym (own_bare kind)) value k)

    pub initialiser_fits : (at : At) (kind : CType) (initialiser : Initialiser) (trees : List Tree) → IsPlace (layout program) memory at kind → Fills program result kind initialiser trees
        → TurnedFits (begin_initialiser program objects rest memory at kind initialiser trees)
    initialiser_fits at kind one_expression [] h f = stays rest waits
    initialiser_fits at kind one_expression (tree ∷ []) h f = stays (evaluation tree (initialises at kind) ∷ rest) (evaluation_fits program result memory tree (initialises at kind) f.0 (h, f.1) f.2, waits)
    initialiser_fits at kind one_expression (first ∷ second ∷ others) h f = stays rest waits
    initialiser_fits at kind (in_braces items) trees h f =
        let value = value_listed (layout program) kind (count_items items) (contents_at memory at) in
        let after = written memory at value in
        let keeps = keeps_written at value memory in (
          stored_typed at kind h value (listed_has program sound kind f.0 (count_items items) (contents_at memory at) (place_has at kind h)),
          keeps,
          named_later program memory after keeps objects named,
          tasks_joined program result after (part_tasks (layout program) at kind 0 items trees) rest (parts_fit after at kind (place_later (layout program) memory after keeps at kind h) 0 items trees f.1)
              (tasks_later program memory after keeps result rest waits),
        )

    -- ---- the end of a full expression

    tested_turned : (place : Place) (truth : Truth) (following : Bool → Turned) → ((b : Bool) → TurnedFits (following b)) → TurnedFits (by_test place truth following)
    tested_turned place (holds b) following h = h b
    tested_turned place (untold cause) following h = tt

    chosen_fit : (b : Bool) (first : Tree) (second : Option Tree) → IsTyped program result first → IsTypedIfThere program result second → TasksFit program memory result (begins_one (if b then Some first else second) ++ rest)
    chosen_fit true first second f s = (f, waits)
    chosen_fit false first None f s = waits
    chosen_fit false first (Some second) f s = (s, waits)

    repeated_fit : (b : Bool) (loop : Loop) → IsTypedLoop program result loop → TasksFit program memory result (if b then begins loop.body ∷ again objects loop ∷ rest else rest)
    repeated_fit true loop l = (l.2, ((named, l), waits))
    repeated_fit false loop l = waits

    value_returned : (tree : Tree) (given : Result) → IsTrue (not (is_lvalue tree)) → IsTrue (covers result (kind_of tree)) → IsResult (layout program) tree given → IsGiven (layout program) result (value_of given)
    value_returned tree (of_value value) v c h = given_covered (layout program) result (kind_of tree) c value h.1
    value_returned tree (designates at) v c h = absurd (false≢true (ap not (sym h) ∙ v))

    pub concluded_fits : (tree : Tree) (place : Place) (use_of : Use) (given : Result) → UseFits program memory result tree use_of → IsResult (layout program) tree given
        → TurnedFits (concluded program objects rest memory place use_of given)
    concluded_fits tree place drops given u h = stays rest waits
    concluded_fits tree place (chooses first second) given u h =
        tested_turned place (truth_of memory (value_of given)) _ (λ b. stays (begins_one (if b then Some first else second) ++ rest) (chosen_fit b first second u.0 u.1))
    concluded_fits tree place (selects items) given u h =
        let chosen = selected_by program (value_of given) items in
        stays (items_tasks chosen ++ rest) (tasks_joined program result memory (items_tasks chosen) rest (items_fit memory chosen (selected_typed program result (value_of given) items u)) waits)
    concluded_fits tree place (repeats loop) given u h =
        tested_turned place (truth_of memory (value_of given)) _ (λ b. stays (if b then begins loop.body ∷ again objects loop ∷ rest else rest) (repeated_fit b loop u.0))
    concluded_fits tree place (continues loop) given u h = stays (tests objects loop ∷ rest) ((named, u), waits)
    concluded_fits tree place returns given u h = stays (hands_back (value_of given) ∷ []) (value_returned tree given u.0 u.1 h, tt)
    concluded_fits tree place (initialises at kind) given u h =
        let value = initial_value kind given in
        let keeps = keeps_written at value memory in (
          stored_typed at kind u.0 value (u.1 given h).0,
          keeps,
          named_later program memory (written memory at value) keeps objects named,
          tasks_later program memory (written memory at value) keeps result rest waits,
        )

    -- ---- what ends

    pub ended_fits : (saved : Objects) (tasks : List Task) → AreNamed program memory saved → TasksFit program memory result tasks → TurnedFits (ended saved objects tasks memory)
    ended_fits saved tasks n h =
        let dying = named_since saved objects in
        let after = killed dying memory in
        let keeps = keeps_killed dying memory in
        (typed_killed (layout program) dying memory typed, keeps, named_later program memory after keeps saved n, tasks_later program memory after keeps result tasks h)

    pub break_fits : (tasks : List Task) → TasksFit program memory result tasks → TurnedFits (after_break objects memory tasks)
    break_fits [] h = stays [] tt
    break_fits (again saved loop ∷ tasks) h = ended_fits saved tasks h.0.0 h.1
    break_fits (ends_switch saved ∷ tasks) h = ended_fits saved (ends_switch saved ∷ tasks) h.0 h
    break_fits (task ∷ tasks) h = break_fits tasks h.1

    pub continue_fits : (tasks : List Task) → TasksFit program memory result tasks → TurnedFits (after_continue objects memory tasks)
    continue_fits [] h = stays [] tt
    continue_fits (again saved loop ∷ tasks) h = ended_fits saved (again saved loop ∷ tasks) h.0.0 h
    continue_fits (task ∷ tasks) h = continue_fits tasks h.1
