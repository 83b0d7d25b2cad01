-- A step of a program in which an object is closed leaves a state in which it is.
use Rattle.std.specs.Prelude.{◌≡◌, refl, ◌⊎◌, ℕ, zero, suc, ◌==◌, Bool, true, false, List, [], ◌∷◌, ◌++◌, map, length, take, drop, replicate, Option, Some, None, option_map, pos, if◌then◌else◌}
use Rattle.std.proofs.Common.{true≢false, ap, sym, ◌∙◌, subst, inl, inr}
use Rattle.dm_token.specs.declared.place.Place.{Place}
use Rattle.dm_int.specs.declared.Kind.TheVariants.{Int}
use Rattle.dm_type.specs.CTypes.{CType, void, integer, pointer, array, struct, function as function_type, const, bare}
use Rattle.dm_tree.specs.Trees.{Label, object, block as block_form, declare, full, if_statement, switch, while_loop, do_loop, for_loop, break, continue, return, Tree, Trees, node, no_trees, more_trees, listed, parts_of, case, default, Declarator, Initialiser, Initialisers, one_expression, in_braces, no_items, more_items, expressions_in}
use Rattle.dm_meaning.specs.declared.cause.Cause.TheVariants.{NoValue, External}
use Rattle.dm_meaning.specs.Among.{IsAmong}
use Rattle.dm_meaning.specs.Machines.{Standing, exited, undefined}
use Rattle.dm_meaning.specs.Memory.{Memory, Block, look_up, literal_block, new_block, changed_block, written, killed, contents_at, IsFresh}
use Rattle.dm_meaning.specs.MoreObjects.{IsMade}
use Rattle.dm_meaning.specs.Objects.{Layout, Field, filled, filled_struct, all_unset, all_zero, zero_of}
use Rattle.dm_meaning.specs.Operations.{Result, of_value, designates, World, Objects, object_named, Truth, holds, untold, truth_of}
use Rattle.dm_meaning.specs.Programs.{Program, Definition, layout, declaration_of, definition_in, definition_of}
use Rattle.dm_meaning.specs.Running.{evaluates as evaluates_label, Run, done, to_do, begun, all_begun, locks_in, Hole, filled_in}
use Rattle.dm_meaning.specs.Expressions.{Move, goes, calls, fails, exits, value_of, moves}
use Rattle.dm_meaning.specs.States.{Loop, Use, drops, chooses, selects, repeats, continues, returns, initialises, Task, begins, declares, initials, evaluates, again, tests, ends, ends_switch, leaves, skips, hands_back, Caller, State}
use Rattle.dm_meaning.specs.Statements.{Turned, onward, refused, evaluation, type_declared, declared_in, named_from, made_from, named_since, expressions_of, declarator_tasks, item_tasks_by, item_tasks, items_tasks, unlabelled, start_task, start_tasks, as_list, begin_for, on_one_tree, on_first_tree, on_option_tree, on_tree_if, loop_with, returning, begin_form, begin_tree, begin_statement, initial_of, is_automatic, begin_declarator, part_tasks, count_items, value_listed, begin_initialiser, as_element, array_of, characters_at, initial_value, has_case, from_first, has_default, or_items, selected_by, by_test, begins_one, concluded, tested, continued, unfolded, ended, after_break, after_continue}
use Rattle.dm_meaning.specs.Steps.{given_from, opened, status_of, lacks_value, gone_back, handed_back, is_main, gives_nothing, body_place, no_place, closed, turned, moved, scene_of, expression_steps, task_steps, Step}
use Rattle.dm_meaning.specs.Values.{Name, numbered, literal_of, elsewhere, At, Value, integer_value, pointer_value, parts as compound, unset, parts_in, with_part}
use Rattle.dm_rewrite.specs.Closed.{Avoids, ListAvoids, ResultAvoids, MemoryAvoids, May, only_closed, may_name, unseen, names_first, IsPlace, IsNotNamed, FirstIs, IsClosedIn, IsClosedInAll}
use Rattle.dm_rewrite.specs.ClosedStates.{IsOther, IsName, NamesOnly, AllNameOnly, ListNamesOnly, OptionNamesOnly, ProgramNamesOnly, OnlyNames, LoopNamesOnly, UseNamesOnly, WaitsClosed, AllWaitClosed, RunsClosed, AreTasksClosed, AreCallersClosed, IsUnreached, IsClosedState}
use Rattle.dm_rewrite.specs.Effects.{Stage, Writes, effects_of}
use Rattle.dm_meaning.proofs.AmongLemmas.{among-map_from}
use Rattle.dm_meaning.proofs.ExtendLemmas.{look_changed}
use Rattle.dm_meaning.proofs.GrowLemmas.{equal_of, equal_is, made_changed, made_added}
use Rattle.dm_meaning.proofs.OptionLemmas.{none_is_some, some_is_some}
use Rattle.dm_meaning.proofs.StateLemmas.{from_steps}
use Rattle.dm_rewrite.proofs.ClosedLemmas.{values_avoid, parts_avoid, characters_avoid, contents_avoid, written_avoids, added_avoids}
use Rattle.dm_rewrite.proofs.ClosedRunLemmas.{run_clear}
use Rattle.dm_rewrite.proofs.EffectLemmas.{step_writes}

-- ---- values and memory without a pointer to the object

module _ (n : ℕ) where
  replicated_avoid : (count : ℕ) (value : Value) → Avoids n value → ListAvoids n (replicate count value)
  replicated_avoid zero value h = tt
  replicated_avoid (suc count) value h = (h, replicated_avoid count value h)

  pub joined_avoid : (xs ys : List Value) → ListAvoids n xs → ListAvoids n ys → ListAvoids n (xs ++ ys)
  joined_avoid [] ys h k = k
  joined_avoid (x ∷ xs) ys h k = (h.0, joined_avoid xs ys h.1 k)

  taken_avoid : (count : ℕ) (xs : List Value) → ListAvoids n xs → ListAvoids n (take count xs)
  taken_avoid zero xs h = tt
  taken_avoid (suc count) [] h = tt
  taken_avoid (suc count) (x ∷ xs) h = (h.0, taken_avoid count xs h.1)

  pub dropped_avoid : (count : ℕ) (xs : List Value) → ListAvoids n xs → ListAvoids n (drop count xs)
  dropped_avoid zero xs h = h
  dropped_avoid (suc count) [] h = tt
  dropped_avoid (suc count) (x ∷ xs) h = dropped_avoid count xs h.1

  filled_avoids : (scalar : CType → Value) (structs : ℕ → Value) → ((type : CType) → Avoids n (scalar type)) → ((number : ℕ) → Avoids n (structs number))
      → (type : CType) → Avoids n (filled scalar structs type)
  filled_avoids scalar structs h k void = h void
  filled_avoids scalar structs h k (integer kind) = h (integer kind)
  filled_avoids scalar structs h k (pointer target) = h (pointer target)
  filled_avoids scalar structs h k (array type (Some count)) =
      values_avoid n (replicate count (filled scalar structs type)) (replicated_avoid count (filled scalar structs type) (filled_avoids scalar structs h k type))
  filled_avoids scalar structs h k (array type None) = tt
  filled_avoids scalar structs h k (struct number) = k number
  filled_avoids scalar structs h k (function_type result parameters) = tt
  filled_avoids scalar structs h k (const type) = filled_avoids scalar structs h k type

  fields_avoid : (make : CType → Value) → ((type : CType) → Avoids n (make type)) → (fields : List Field)
      → ListAvoids n (map (λ (field : Field). make field.kind) fields)
  fields_avoid make h [] = tt
  fields_avoid make h (field ∷ fields) = (h field.kind, fields_avoid make h fields)

  struct_avoids : (layout : Layout) (scalar : CType → Value) → ((type : CType) → Avoids n (scalar type)) → (depth number : ℕ)
      → Avoids n (filled_struct layout scalar depth number)
  struct_avoids layout scalar h zero number = tt
  struct_avoids layout scalar h (suc depth) number =
      values_avoid n (map (λ (field : Field). filled scalar (filled_struct layout scalar depth) field.kind) (layout.fields number))
      (fields_avoid (filled scalar (filled_struct layout scalar depth))
      (filled_avoids scalar (filled_struct layout scalar depth) h (struct_avoids layout scalar h depth)) (layout.fields number))

  unset_avoids : (layout : Layout) (type : CType) → Avoids n (all_unset layout type)
  unset_avoids layout type =
      filled_avoids (λ scalar. unset) (filled_struct layout (λ scalar. unset) layout.structs) (λ scalar. tt)
      (struct_avoids layout (λ scalar. unset) (λ scalar. tt) layout.structs) type

  zero_avoids : (type : CType) → Avoids n (zero_of type)
  zero_avoids (integer kind) = tt
  zero_avoids (pointer target) = tt
  zero_avoids type = tt

  pub zeros_avoid : (layout : Layout) (type : CType) → Avoids n (all_zero layout type)
  zeros_avoid layout type =
      filled_avoids zero_of (filled_struct layout zero_of layout.structs) zero_avoids (struct_avoids layout zero_of zero_avoids layout.structs) type

  -- the value of an object where a list in braces begins, and that which a string literal gives
  value_listed_avoids : (layout : Layout) (kind : CType) (count : ℕ) (value : Value) → Avoids n value → Avoids n (value_listed layout kind count value)
  value_listed_avoids layout kind count value h =
      values_avoid n (take count (parts_in value) ++ drop count (parts_in (all_zero layout kind)))
      (joined_avoid (take count (parts_in value)) (drop count (parts_in (all_zero layout kind))) (taken_avoid count (parts_in value) (parts_avoid n value h))
      (dropped_avoid count (parts_in (all_zero layout kind)) (parts_avoid n (all_zero layout kind) (zeros_avoid layout kind))))

  element_avoids : (kind : CType) (value : Value) → Avoids n value → Avoids n (as_element kind value)
  element_avoids (integer kind) (integer_value other z) h = tt
  element_avoids (integer kind) (pointer_value p) h = h
  element_avoids (integer kind) (compound all) h = h
  element_avoids (integer kind) unset h = h
  element_avoids void value h = h
  element_avoids (pointer target) value h = h
  element_avoids (array type count) value h = h
  element_avoids (struct number) value h = h
  element_avoids (function_type result parameters) value h = h
  element_avoids (const type) value h = h

  elements_avoid : (kind : CType) (xs : List Value) → ListAvoids n xs → ListAvoids n (map (as_element kind) xs)
  elements_avoid kind [] h = tt
  elements_avoid kind (x ∷ xs) h = (element_avoids kind x h.0, elements_avoid kind xs h.1)

  pub array_avoids : (kind : CType) (characters : List Value) → ListAvoids n characters → Avoids n (array_of kind characters)
  array_avoids (array element (Some count)) characters h =
      values_avoid n (take count (map (as_element (bare element)) characters ++ replicate count (zero_of (bare element))))
      (taken_avoid count (map (as_element (bare element)) characters ++ replicate count (zero_of (bare element)))
      (joined_avoid (map (as_element (bare element)) characters) (replicate count (zero_of (bare element))) (elements_avoid (bare element) characters h)
      (replicated_avoid count (zero_of (bare element)) (zero_avoids (bare element)))))
  array_avoids (array element None) characters h = tt
  array_avoids void characters h = tt
  array_avoids (integer kind) characters h = tt
  array_avoids (pointer target) characters h = tt
  array_avoids (struct number) characters h = tt
  array_avoids (function_type result parameters) characters h = tt
  array_avoids (const type) characters h = tt

  text_avoids : (name : Name) → ListAvoids n (characters_at name)
  text_avoids (literal_of bytes unit) = parts_avoid n (literal_block bytes).contents (values_avoid n _ (characters_avoid n bytes))
  text_avoids (numbered m) = tt
  text_avoids (elsewhere identifier) = tt

  initial_avoids : (kind : CType) (result : Result) → ResultAvoids n result → Avoids n (initial_value kind result)
  initial_avoids kind (of_value value) h = h
  initial_avoids kind (designates at) h = array_avoids kind (characters_at at.name) (text_avoids at.name)

  value_avoids : (result : Result) → ResultAvoids n result → Avoids n (value_of result)
  value_avoids (of_value value) h = h
  value_avoids (designates at) h = tt

  -- lifetimes end
  abbrev died : Block → Block
  died block = record block { alive = false }

  dead_avoids : (m : ℕ) (memory : Memory) → MemoryAvoids n memory → MemoryAvoids n (changed_block m died memory)
  dead_avoids m memory h j block e = by_found (look_up memory j) (h j) (sym (look_changed m died memory j) ∙ e)
    where
      by_bool : (b : Bool) (was : Block) → Avoids n was.contents → Avoids n (if b then died was else was).contents
      by_bool true was g = g
      by_bool false was g = g

      by_found : (o : Option Block) → ((was : Block) → o ≡ Some was → Avoids n was.contents)
          → option_map (λ was. if j == m then died was else was) o ≡ Some block → Avoids n block.contents
      by_found None g f = absurd (none_is_some block f)
      by_found (Some was) g f =
          subst (λ (b : Block). Avoids n b.contents) (some_is_some (if j == m then died was else was) block f) (by_bool (j == m) was (g was refl))

  killed_avoids : (ns : List ℕ) (memory : Memory) → MemoryAvoids n memory → MemoryAvoids n (killed ns memory)
  killed_avoids [] memory h = h
  killed_avoids (m ∷ ns) memory h = killed_avoids ns (changed_block m died memory) (dead_avoids m memory h)

  killed_made : (ns : List ℕ) (memory : Memory) → IsMade memory n → IsMade (killed ns memory) n
  killed_made [] memory h = h
  killed_made (m ∷ ns) memory h = killed_made ns (changed_block m died memory) (made_changed m died memory n h)

  written_made : (memory : Memory) (at : At) (value : Value) → IsMade memory n → IsMade (written memory at value) n
  written_made memory at value h = by_name at.name
    where
      by_name : (name : Name) → IsMade (written memory (record { name = name; path = at.path }) value) n
      by_name (numbered m) = made_changed m (λ block. record block { contents = with_part at.path value block.contents }) memory n h
      by_name (literal_of bytes unit) = h
      by_name (elsewhere identifier) = h

  writes_made : (world after : World) (stage : Stage) (run : Run) → IsMade world.memory n → Writes world after (effects_of stage run) → IsMade after.memory n
  writes_made world after stage run h (inl e) = subst (λ memory. IsMade memory n) (sym e) h
  writes_made world after stage run h (inr w) = subst (λ memory. IsMade memory n) (sym w.is) (written_made world.memory w.at w.value h)

  -- objects are made
  pub made_avoid : (program : Program) (names : ℕ → ℕ) (i : ℕ) (ds : List ℕ) (memory : Memory) → MemoryAvoids n memory → MemoryAvoids n (made_from program names i ds memory)
  made_avoid program names i [] memory h = h
  made_avoid program names i (e ∷ ds) memory h =
      made_avoid program names (suc i) ds ((names i, new_block (layout program) (type_declared program e)) ∷ memory)
      (added_avoids n (names i) (new_block (layout program) (type_declared program e)) memory (unset_avoids (layout program) (type_declared program e)) h)

  made_made : (program : Program) (names : ℕ → ℕ) (i : ℕ) (ds : List ℕ) (memory : Memory) → IsMade memory n → IsMade (made_from program names i ds memory) n
  made_made program names i [] memory h = h
  made_made program names i (e ∷ ds) memory h =
      made_made program names (suc i) ds ((names i, new_block (layout program) (type_declared program e)) ∷ memory)
      (made_added (names i) (new_block (layout program) (type_declared program e)) memory n h)

  pub given_avoid : (program : Program) (names : ℕ → ℕ) (i : ℕ) (ds : List ℕ) (arguments : List Value) (memory : Memory) → ListAvoids n arguments → MemoryAvoids n memory
      → MemoryAvoids n (given_from program names i ds arguments memory)
  given_avoid program names i [] arguments memory k h = h
  given_avoid program names i (e ∷ ds) [] memory k h =
      given_avoid program names (suc i) ds [] ((names i, new_block (layout program) (type_declared program e)) ∷ memory) tt
      (added_avoids n (names i) (new_block (layout program) (type_declared program e)) memory (unset_avoids (layout program) (type_declared program e)) h)
  given_avoid program names i (e ∷ ds) (value ∷ arguments) memory k h =
      given_avoid program names (suc i) ds arguments ((names i, record (new_block (layout program) (type_declared program e)) { contents = value }) ∷ memory) k.1
      (added_avoids n (names i) (record (new_block (layout program) (type_declared program e)) { contents = value }) memory k.0 h)

  given_made : (program : Program) (names : ℕ → ℕ) (i : ℕ) (ds : List ℕ) (arguments : List Value) (memory : Memory) → IsMade memory n
      → IsMade (given_from program names i ds arguments memory) n
  given_made program names i [] arguments memory h = h
  given_made program names i (e ∷ ds) [] memory h =
      given_made program names (suc i) ds [] ((names i, new_block (layout program) (type_declared program e)) ∷ memory)
      (made_added (names i) (new_block (layout program) (type_declared program e)) memory n h)
  given_made program names i (e ∷ ds) (value ∷ arguments) memory h =
      given_made program names (suc i) ds arguments ((names i, record (new_block (layout program) (type_declared program e)) { contents = value }) ∷ memory)
      (made_added (names i) (record (new_block (layout program) (type_declared program e)) { contents = value }) memory n h)

-- ---- names

module _ (n d : ℕ) where
  pub only_join : (xs ys : Objects) → OnlyNames n d xs → OnlyNames n d ys → OnlyNames n d (xs ++ ys)
  only_join [] ys h k = k
  only_join (x ∷ xs) ys h k = (h.0, only_join xs ys h.1 k)

  object_is : (objects : Objects) → OnlyNames n d objects → (e : ℕ) → object_named objects e ≡ Some n → e ≡ d
  object_is [] h e f = absurd (none_is_some n f)
  object_is (entry ∷ entries) h e f = by_bool (entry.0 == e) refl f (λ k. object_is entries h.1 e k)
    where
      by_bool : (b : Bool) → (entry.0 == e) ≡ b → (if b then Some entry.1 else object_named entries e) ≡ Some n
          → (object_named entries e ≡ Some n → e ≡ d) → e ≡ d
      by_bool true g k later = sym (equal_of entry.0 e g) ∙ h.0 (some_is_some entry.1 n k)
      by_bool false g k later = later k

  named_only : (names : ℕ → ℕ) → ((i : ℕ) → names i ≡ n → ⊥) → (i : ℕ) (ds : List ℕ) (objects : Objects) → OnlyNames n d objects
      → OnlyNames n d (named_from names i ds objects)
  named_only names new i [] objects h = h
  named_only names new i (e ∷ ds) objects h = named_only names new (suc i) ds ((e, names i) ∷ objects) ((λ f. absurd (new i f)), h)

  -- the object was there, or it is known what names it now
  still_only : (Was : Type 0) (names : ℕ → ℕ) → (Was → (i : ℕ) → names i ≡ n → ⊥) → (i : ℕ) (ds : List ℕ) (objects : Objects) → OnlyNames n d objects
      → Was ⊎ OnlyNames n d (named_from names i ds objects) → OnlyNames n d (named_from names i ds objects)
  still_only Was names new i ds objects h (inl was) = named_only names (new was) i ds objects h
  still_only Was names new i ds objects h (inr k) = k

  new_names : (names : ℕ → ℕ) (memory : Memory) → IsFresh names memory → IsMade memory n → (i : ℕ) → names i ≡ n → ⊥
  new_names names memory fresh made i e = none_is_some made.0 (sym (fresh.1 i) ∙ ap (look_up memory) e ∙ made.1)

  -- ---- a tree that begins

  module _ (objects : Objects) (only : OnlyNames n d objects) where
    not_named : (label : Label) → IsOther d label → IsNotNamed n objects (evaluates_label label)
    not_named (object e) h = λ f. h (object_is objects only e f)
    not_named label h = tt

    is_it : (o : Option ℕ) → (o ≡ Some n) ⊎ (o ≡ Some n → ⊥)
    is_it None = inr (none_is_some n)
    is_it (Some m) = by_bool (m == n) refl
      where
        by_bool : (b : Bool) → (m == n) ≡ b → (Some m ≡ Some n) ⊎ (Some m ≡ Some n → ⊥)
        by_bool true e = inl (ap Some (equal_of m n e))
        by_bool false e = inr (λ f. true≢false (sym (equal_is m n (some_is_some m n f)) ∙ e))

    name_closed : (tree : Tree) → IsName d tree → IsClosedIn n objects (begun tree) ⊎ IsPlace n objects (begun tree)
    name_closed tree (kind, spans, e) = subst (λ t. IsClosedIn n objects (begun t) ⊎ IsPlace n objects (begun t)) (sym e) (by_object (is_it (object_named objects d)))
      where
        by_object : (object_named objects d ≡ Some n) ⊎ (object_named objects d ≡ Some n → ⊥)
            → IsClosedIn n objects (begun (node (object d) kind spans no_trees)) ⊎ IsPlace n objects (begun (node (object d) kind spans no_trees))
        by_object (inl f) = inr (inl (d, kind, spans.place, refl, f))
        by_object (inr f) = inl (f, tt)

    first_closed : (may : May) (first : Tree) → (NamesOnly d first → IsClosedIn n objects (begun first)) → FirstIs may (NamesOnly d first) (IsName d first)
        → FirstIs may (IsClosedIn n objects (begun first)) (IsPlace n objects (begun first))
    first_closed only_closed first later h = later h
    first_closed may_name first later (inl h) = inl (later h)
    first_closed may_name first later (inr h) = name_closed first h
    first_closed unseen first later h = tt

    mutual
      pub begun_closed : (tree : Tree) → NamesOnly d tree → IsClosedIn n objects (begun tree)
      begun_closed (node label kind spans parts) h = (not_named label h.0, all_begun_closed (names_first (evaluates_label label)) parts h.1)

      all_begun_closed : (may : May) (parts : Trees) → AllNameOnly d may parts → IsClosedInAll n objects may (all_begun parts)
      all_begun_closed may no_trees h = tt
      all_begun_closed may (more_trees first rest) h =
          (first_closed may first (λ k. begun_closed first k) h.0, all_begun_closed only_closed rest h.1)

    -- a task that waited becomes the first
    waited : (task : Task) → WaitsClosed n d task → RunsClosed n d objects task
    waited (begins tree) h = h
    waited (declares declarator expressions) h = h
    waited (initials at kind initialiser expressions) h = h
    waited (evaluates place run use_of) h = (subst (IsClosedIn n objects) (sym h.0.1) (begun_closed h.0.0 h.0.2), h.1)
    waited (again saved loop) h = h
    waited (tests saved loop) h = h
    waited (ends saved) h = h
    waited (ends_switch saved) h = h
    waited leaves h = tt
    waited skips h = tt
    waited (hands_back value) h = h

    pub all_waited : (tasks : List Task) → AllWaitClosed n d tasks → AreTasksClosed n d objects tasks
    all_waited [] h = tt
    all_waited (task ∷ rest) h = (waited task h.0, h.1)

  -- ---- lists of trees

  listed_names : (parts : Trees) → AllNameOnly d only_closed parts → ListNamesOnly d (listed parts)
  listed_names no_trees h = tt
  listed_names (more_trees first rest) h = (h.0, listed_names rest h.1)

  taken_names : (count : ℕ) (trees : List Tree) → ListNamesOnly d trees → ListNamesOnly d (take count trees)
  taken_names zero trees h = tt
  taken_names (suc count) [] h = tt
  taken_names (suc count) (first ∷ rest) h = (h.0, taken_names count rest h.1)

  dropped_names : (count : ℕ) (trees : List Tree) → ListNamesOnly d trees → ListNamesOnly d (drop count trees)
  dropped_names zero trees h = h
  dropped_names (suc count) [] h = tt
  dropped_names (suc count) (first ∷ rest) h = dropped_names count rest h.1

  wait_join : (xs ys : List Task) → AllWaitClosed n d xs → AllWaitClosed n d ys → AllWaitClosed n d (xs ++ ys)
  wait_join [] ys h k = k
  wait_join (x ∷ xs) ys h k = (h.0, wait_join xs ys h.1 k)

  -- ---- items of blocks

  declarators_wait : (declarators : List Declarator) (expressions : List Tree) → ListNamesOnly d expressions
      → AllWaitClosed n d (declarator_tasks declarators expressions)
  declarators_wait [] expressions h = tt
  declarators_wait (declarator ∷ declarators) expressions h = (
    taken_names (expressions_of declarator.initialiser) expressions h,
    declarators_wait declarators (drop (expressions_of declarator.initialiser) expressions) (dropped_names (expressions_of declarator.initialiser) expressions h),
  )

  item_waits : (tree : Tree) → NamesOnly d tree → AllWaitClosed n d (item_tasks tree)
  item_waits (node label kind spans parts) h = by_label label h
    where
      by_label : (l : Label) → NamesOnly d (node l kind spans parts) → AllWaitClosed n d (item_tasks_by (node l kind spans parts) l (listed parts))
      by_label (declare lengths declarators) k =
          declarators_wait declarators (drop lengths (listed parts)) (dropped_names lengths (listed parts) (listed_names parts k.1))
      by_label l k = (k, tt)

  pub items_wait : (items : List Tree) → ListNamesOnly d items → AllWaitClosed n d (items_tasks items)
  items_wait [] h = tt
  items_wait (item ∷ items) h = wait_join (item_tasks item) (items_tasks items) (item_waits item h.0) (items_wait items h.1)

  start_waits : (start : Option Tree) → OptionNamesOnly d start → AllWaitClosed n d (start_tasks start)
  start_waits None h = tt
  start_waits (Some (node label kind spans parts)) h = by_label label h
    where
      by_label : (l : Label) → NamesOnly d (node l kind spans parts) → AllWaitClosed n d (start_task (node l kind spans parts) l)
      by_label (declare lengths declarators) k = item_waits (node (declare lengths declarators) kind spans parts) k
      by_label l k = (((node l kind spans parts, refl, k), tt), tt)

  selected_names : (test : Tree → Bool) (items : List Tree) (others : List Tree) → ListNamesOnly d items → ListNamesOnly d others
      → ListNamesOnly d (or_items (from_first test items) others)
  selected_names test [] others h k = k
  selected_names test (item ∷ items) others h k = by_bool (test item) (selected_names test items others h.1 k)
    where
      by_bool : (b : Bool) → ListNamesOnly d (or_items (from_first test items) others)
          → ListNamesOnly d (or_items (if b then Some (item ∷ items) else from_first test items) others)
      by_bool true later = h
      by_bool false later = later

  chosen_names : (program : Program) (value : Value) (items : List Tree) → ListNamesOnly d items → ListNamesOnly d (selected_by program value items)
  chosen_names program (integer_value kind z) items h =
      selected_names (has_case program z) items (or_items (from_first has_default items) []) h (selected_names has_default items [] h tt)
  chosen_names program (pointer_value p) items h = tt
  chosen_names program (compound all) items h = tt
  chosen_names program unset items h = tt

  -- the statement behind labels
  unlabelled_names : (tree : Tree) → NamesOnly d tree → NamesOnly d (unlabelled tree)
  unlabelled_names (node case kind spans (more_trees value (more_trees statement rest))) h = unlabelled_names statement h.1.1.0
  unlabelled_names (node default kind spans (more_trees statement rest)) h = unlabelled_names statement h.1.0
  unlabelled_names tree h = h

  -- ---- what a step leaves in a frame

  -- The object was made before, or it is new, and known what names it now.
  module _ (Was : Type 0) (statics : Objects) (only_statics : OnlyNames n d statics) where
    abbrev GoesClosed : Objects → List Task → Memory → Type 0
    GoesClosed objects tasks memory = OnlyNames n d objects × AreTasksClosed n d (statics ++ objects) tasks × MemoryAvoids n memory × (Was → IsMade memory n)

    abbrev TurnsClosed : Turned → Type 0
    TurnsClosed (onward objects tasks memory) = Was ⊎ OnlyNames n d objects → GoesClosed objects tasks memory
    TurnsClosed (refused cause place) = Unit {0}

    onward_closed : (objects : Objects) (tasks : List Task) (memory : Memory) → OnlyNames n d objects → AllWaitClosed n d tasks → MemoryAvoids n memory → (Was → IsMade memory n)
        → TurnsClosed (onward objects tasks memory)
    onward_closed objects tasks memory o w avoids made known = (o, all_waited (statics ++ objects) (only_join statics objects only_statics o) tasks w, avoids, made)

    -- ---- trees of a statement

    one_tree : (trees : List Tree) (following : Tree → Turned) (otherwise : Turned) → ListNamesOnly d trees → ((x : Tree) → NamesOnly d x → TurnsClosed (following x))
        → TurnsClosed otherwise → TurnsClosed (on_one_tree trees following otherwise)
    one_tree [] following otherwise h k o = o
    one_tree (x ∷ []) following otherwise h k o = k x h.0
    one_tree (x ∷ y ∷ rest) following otherwise h k o = o

    first_tree : (trees : List Tree) (following : Tree → List Tree → Turned) (otherwise : Turned) → ListNamesOnly d trees
        → ((x : Tree) (xs : List Tree) → NamesOnly d x → ListNamesOnly d xs → TurnsClosed (following x xs)) → TurnsClosed otherwise
        → TurnsClosed (on_first_tree trees following otherwise)
    first_tree [] following otherwise h k o = o
    first_tree (x ∷ rest) following otherwise h k o = k x rest h.0 h.1

    option_tree : (trees : List Tree) (following : Option Tree → Turned) (otherwise : Turned) → ListNamesOnly d trees
        → ((x : Option Tree) → OptionNamesOnly d x → TurnsClosed (following x)) → TurnsClosed otherwise → TurnsClosed (on_option_tree trees following otherwise)
    option_tree [] following otherwise h k o = k None tt
    option_tree (x ∷ []) following otherwise h k o = k (Some x) h.0
    option_tree (x ∷ y ∷ rest) following otherwise h k o = o

    if_tree : (there : Bool) (trees : List Tree) (following : Option Tree → List Tree → Turned) (otherwise : Turned) → ListNamesOnly d trees
        → ((x : Option Tree) (xs : List Tree) → OptionNamesOnly d x → ListNamesOnly d xs → TurnsClosed (following x xs)) → TurnsClosed otherwise
        → TurnsClosed (on_tree_if there trees following otherwise)
    if_tree false trees following otherwise h k o = k None trees tt h
    if_tree true [] following otherwise h k o = o
    if_tree true (x ∷ rest) following otherwise h k o = k (Some x) rest h.0 h.1

    module _ (program : Program) (objects : Objects) (only : OnlyNames n d objects) (rest : List Task) (waits : AllWaitClosed n d rest) (memory : Memory)
        (avoids : MemoryAvoids n memory) (made : Was → IsMade memory n) where
      goes_on : (tasks : List Task) → AllWaitClosed n d tasks → TurnsClosed (onward objects tasks memory)
      goes_on tasks w = onward_closed objects tasks memory only w avoids made

      otherwise : TurnsClosed (onward objects (ends objects ∷ rest) memory)
      otherwise = goes_on (ends objects ∷ rest) (only, waits)

      module _ (names : ℕ → ℕ) (new : Was → (i : ℕ) → names i ≡ n → ⊥) where
        for_closed : (start : Option Tree) (loop : Loop) → OptionNamesOnly d start → LoopNamesOnly d loop
            → TurnsClosed (begin_for program names objects rest memory start loop)
        for_closed start loop h k known =
            let ds = declared_in program (as_list start) in
            let inner = still_only Was names new 0 ds objects only known in
            onward_closed (named_from names 0 ds objects)
            (start_tasks start ++ tests (named_from names 0 ds objects) loop ∷ ends objects ∷ rest) (made_from program names 0 ds memory) inner
            (wait_join (start_tasks start) (tests (named_from names 0 ds objects) loop ∷ ends objects ∷ rest) (start_waits start h) ((inner, k), (only, waits)))
            (made_avoid n program names 0 ds memory avoids) (λ was. made_made n program names 0 ds memory (made was)) known

        returning_closed : (value : Option Tree) → OptionNamesOnly d value → TurnsClosed (returning objects memory value)
        returning_closed None h = goes_on (hands_back unset ∷ []) (tt, tt)
        returning_closed (Some tree) h = goes_on (evaluation tree returns ∷ []) (((tree, refl, h), tt), tt)

        form_closed : (label : Label) (parts : Trees) → AllNameOnly d (names_first (evaluates_label label)) parts
            → TurnsClosed (begin_form program names objects rest memory label (listed parts))
        form_closed block_form parts h =
            let items = listed parts in
            let ds = declared_in program items in
            λ known.
            onward_closed (named_from names 0 ds objects) (items_tasks items ++ ends objects ∷ rest) (made_from program names 0 ds memory)
            (still_only Was names new 0 ds objects only known) (wait_join (items_tasks items) (ends objects ∷ rest) (items_wait items (listed_names parts h)) (only, waits))
            (made_avoid n program names 0 ds memory avoids) (λ was. made_made n program names 0 ds memory (made was)) known
        form_closed full parts h =
            one_tree (listed parts) _ _ (listed_names parts h) (λ tree k. goes_on (evaluation tree drops ∷ ends objects ∷ rest) (((tree, refl, k), tt), (only, waits))) otherwise
        form_closed if_statement parts h =
            first_tree (listed parts) _ _ (listed_names parts h)
            (λ condition others k ks. first_tree others _ _ ks
            (λ first seconds l ls. option_tree seconds _ _ ls (λ second m. goes_on (evaluation condition (chooses first second) ∷ ends objects ∷ rest) (((condition, refl, k), (l, m)), (only, waits))) otherwise)
            otherwise)
            otherwise
        form_closed switch parts h =
            first_tree (listed parts) _ _ (listed_names parts h)
            (λ operand items k ks. goes_on (evaluation operand (selects items) ∷ ends_switch objects ∷ rest) (((operand, refl, k), ks), (only, waits))) otherwise
        form_closed while_loop parts h =
            first_tree (listed parts) _ _ (listed_names parts h)
            (λ condition others k ks. one_tree others _ _ ks (λ body l. goes_on (tests objects (loop_with (Some condition) None body) ∷ ends objects ∷ rest) ((only, (k, tt, l)), (only, waits))) otherwise)
            otherwise
        form_closed do_loop parts h =
            first_tree (listed parts) _ _ (listed_names parts h)
            (λ body others k ks. one_tree others _ _ ks (λ condition l. goes_on (begins body ∷ again objects (loop_with (Some condition) None body) ∷ ends objects ∷ rest) (k, ((only, (l, tt, k)), (only, waits)))) otherwise)
            otherwise
        form_closed (for_loop first second third) parts h =
            if_tree first (listed parts) _ _ (listed_names parts h)
            (λ start others s hs. if_tree second others _ _ hs
            (λ condition seconds c cs. if_tree third seconds _ _ cs
            (λ after thirds a ts. one_tree thirds _ _ ts (λ body b. for_closed start (loop_with condition after body) s (c, a, b)) otherwise)
            otherwise)
            otherwise)
            otherwise
        form_closed break parts h = goes_on (leaves ∷ rest) (tt, waits)
        form_closed continue parts h = goes_on (skips ∷ rest) (tt, waits)
        form_closed return parts h = option_tree (listed parts) _ _ (listed_names parts h) returning_closed otherwise
        form_closed label parts h = otherwise

        tree_closed : (tree : Tree) → NamesOnly d tree → TurnsClosed (begin_statement program names objects rest memory tree)
        tree_closed tree h = by_tree (unlabelled tree) (unlabelled_names tree h)
          where
            by_tree : (t : Tree) → NamesOnly d t → TurnsClosed (begin_tree program names objects rest memory t)
            by_tree (node label kind spans parts) k = form_closed label parts k.1

      -- ---- initialisers

      initial_waits : (kind : CType) (o : Option ℕ) (initialiser : Option Initialiser) (expressions : List Tree) → ListNamesOnly d expressions
          → AllWaitClosed n d (initial_of kind o initialiser expressions)
      initial_waits kind None initialiser expressions h = tt
      initial_waits kind (Some m) None expressions h = tt
      initial_waits kind (Some m) (Some initialiser) expressions h = (h, tt)

      if_waits : (b : Bool) (tasks : List Task) → AllWaitClosed n d tasks → AllWaitClosed n d (if b then tasks else [])
      if_waits true tasks h = h
      if_waits false tasks h = tt

      declarator_closed : (declarator : Declarator) (expressions : List Tree) → ListNamesOnly d expressions
          → TurnsClosed (begin_declarator program objects rest memory declarator expressions)
      declarator_closed declarator expressions h =
          let there = initial_of (type_declared program declarator.declared) (object_named objects declarator.declared) declarator.initialiser expressions in
          goes_on ((if is_automatic program declarator then there else []) ++ rest)
          (wait_join (if is_automatic program declarator then there else []) rest (if_waits (is_automatic program declarator) there
          (initial_waits (type_declared program declarator.declared) (object_named objects declarator.declared) declarator.initialiser expressions h)) waits)

      parts_wait : (at : At) (kind : CType) (k : ℕ) (items : Initialisers) (expressions : List Tree) → ListNamesOnly d expressions
          → AllWaitClosed n d (part_tasks (layout program) at kind k items expressions)
      parts_wait at kind k no_items expressions h = tt
      parts_wait at kind k (more_items item items) expressions h =
          (taken_names (expressions_in item) expressions h, parts_wait at kind (suc k) items (drop (expressions_in item) expressions) (dropped_names (expressions_in item) expressions h))

      stored : (at : At) (value : Value) (tasks : List Task) → Avoids n value → AllWaitClosed n d tasks → TurnsClosed (onward objects tasks (written memory at value))
      stored at value tasks h w =
          onward_closed objects tasks (written memory at value) only w (written_avoids n memory at value avoids h) (λ was. written_made n memory at value (made was))

      initialiser_closed : (at : At) (kind : CType) (initialiser : Initialiser) (expressions : List Tree) → ListNamesOnly d expressions
          → TurnsClosed (begin_initialiser program objects rest memory at kind initialiser expressions)
      initialiser_closed at kind one_expression expressions h =
          one_tree expressions _ _ h (λ tree k. goes_on (evaluation tree (initialises at kind) ∷ rest) (((tree, refl, k), tt), waits)) (goes_on rest waits)
      initialiser_closed at kind (in_braces items) expressions h =
          stored at (value_listed (layout program) kind (count_items items) (contents_at memory at)) (part_tasks (layout program) at kind 0 items expressions ++ rest)
          (value_listed_avoids n (layout program) kind (count_items items) (contents_at memory at) (contents_avoid n memory avoids at))
          (wait_join (part_tasks (layout program) at kind 0 items expressions) rest (parts_wait at kind 0 items expressions h) waits)

      -- ---- the end of a full expression

      test_closed : (place : Place) (truth : Truth) (following : Bool → Turned) → ((b : Bool) → TurnsClosed (following b)) → TurnsClosed (by_test place truth following)
      test_closed place (holds b) following h = h b
      test_closed place (untold cause) following h = tt

      one_waits : (tree : Option Tree) → OptionNamesOnly d tree → AllWaitClosed n d (begins_one tree)
      one_waits None h = tt
      one_waits (Some tree) h = (h, tt)

      concluded_closed : (place : Place) (use_of : Use) (result : Result) → UseNamesOnly d use_of → ResultAvoids n result
          → TurnsClosed (concluded program objects rest memory place use_of result)
      concluded_closed place drops result h k = goes_on rest waits
      concluded_closed place (chooses first second) result h k = test_closed place (truth_of memory (value_of result)) _ by_bool
        where
          by_bool : (b : Bool) → TurnsClosed (onward objects (begins_one (if b then Some first else second) ++ rest) memory)
          by_bool true = goes_on (begins_one (Some first) ++ rest) (wait_join (begins_one (Some first)) rest (h.0, tt) waits)
          by_bool false = goes_on (begins_one second ++ rest) (wait_join (begins_one second) rest (one_waits second h.1) waits)
      concluded_closed place (selects items) result h k =
          let chosen = selected_by program (value_of result) items in
          goes_on (items_tasks chosen ++ rest) (wait_join (items_tasks chosen) rest (items_wait chosen (chosen_names program (value_of result) items h)) waits)
      concluded_closed place (repeats loop) result h k = test_closed place (truth_of memory (value_of result)) _ by_bool
        where
          by_bool : (b : Bool) → TurnsClosed (onward objects (if b then begins loop.body ∷ again objects loop ∷ rest else rest) memory)
          by_bool true = goes_on (begins loop.body ∷ again objects loop ∷ rest) (h.2, ((only, h), waits))
          by_bool false = goes_on rest waits
      concluded_closed place (continues loop) result h k = goes_on (tests objects loop ∷ rest) ((only, h), waits)
      concluded_closed place returns result h k = goes_on (hands_back (value_of result) ∷ []) (value_avoids n result k, tt)
      concluded_closed place (initialises at kind) result h k = stored at (initial_value kind result) rest (initial_avoids n kind result k) waits

      -- ---- what ends

      ended_closed : (saved : Objects) (tasks : List Task) → OnlyNames n d saved → AllWaitClosed n d tasks → TurnsClosed (ended saved objects tasks memory)
      ended_closed saved tasks o w =
          onward_closed saved tasks (killed (named_since saved objects) memory) o w (killed_avoids n (named_since saved objects) memory avoids)
          (λ was. killed_made n (named_since saved objects) memory (made was))

      break_closed : (tasks : List Task) → AllWaitClosed n d tasks → TurnsClosed (after_break objects memory tasks)
      break_closed [] h = goes_on [] tt
      break_closed (again saved loop ∷ tasks) h = ended_closed saved tasks h.0.0 h.1
      break_closed (ends_switch saved ∷ tasks) h = ended_closed saved (ends_switch saved ∷ tasks) h.0 h
      break_closed (begins tree ∷ tasks) h = break_closed tasks h.1
      break_closed (declares declarator expressions ∷ tasks) h = break_closed tasks h.1
      break_closed (initials at kind initialiser expressions ∷ tasks) h = break_closed tasks h.1
      break_closed (evaluates place run use_of ∷ tasks) h = break_closed tasks h.1
      break_closed (tests saved loop ∷ tasks) h = break_closed tasks h.1
      break_closed (ends saved ∷ tasks) h = break_closed tasks h.1
      break_closed (leaves ∷ tasks) h = break_closed tasks h.1
      break_closed (skips ∷ tasks) h = break_closed tasks h.1
      break_closed (hands_back value ∷ tasks) h = break_closed tasks h.1

      continue_closed : (tasks : List Task) → AllWaitClosed n d tasks → TurnsClosed (after_continue objects memory tasks)
      continue_closed [] h = goes_on [] tt
      continue_closed (again saved loop ∷ tasks) h = ended_closed saved (again saved loop ∷ tasks) h.0.0 h
      continue_closed (ends_switch saved ∷ tasks) h = continue_closed tasks h.1
      continue_closed (begins tree ∷ tasks) h = continue_closed tasks h.1
      continue_closed (declares declarator expressions ∷ tasks) h = continue_closed tasks h.1
      continue_closed (initials at kind initialiser expressions ∷ tasks) h = continue_closed tasks h.1
      continue_closed (evaluates place run use_of ∷ tasks) h = continue_closed tasks h.1
      continue_closed (tests saved loop ∷ tasks) h = continue_closed tasks h.1
      continue_closed (ends saved ∷ tasks) h = continue_closed tasks h.1
      continue_closed (leaves ∷ tasks) h = continue_closed tasks h.1
      continue_closed (skips ∷ tasks) h = continue_closed tasks h.1
      continue_closed (hands_back value ∷ tasks) h = continue_closed tasks h.1

  -- ---- loops that go on without a step

  tested_waits : (saved : Objects) (loop : Loop) (rest : List Task) → OnlyNames n d saved → LoopNamesOnly d loop → AllWaitClosed n d rest
      → (condition : Option Tree) → OptionNamesOnly d condition → AllWaitClosed n d (tested saved loop rest condition)
  tested_waits saved loop rest o h w (Some condition) k = (((condition, refl, k), h), w)
  tested_waits saved loop rest o h w None k = (h.2, ((o, h), w))

  continued_waits : (saved : Objects) (loop : Loop) (rest : List Task) → OnlyNames n d saved → LoopNamesOnly d loop → AllWaitClosed n d rest
      → (after : Option Tree) → OptionNamesOnly d after → AllWaitClosed n d (continued saved loop rest after)
  continued_waits saved loop rest o h w (Some after) k = (((after, refl, k), h), w)
  continued_waits saved loop rest o h w None k = tested_waits saved loop rest o h w loop.condition h.0

  pub unfolded_closed : (objects : Objects) → OnlyNames n d objects → (tasks : List Task) → AreTasksClosed n d objects tasks → AreTasksClosed n d objects (unfolded tasks)
  unfolded_closed objects only [] h = tt
  unfolded_closed objects only (tests saved loop ∷ rest) h =
      all_waited objects only (tested saved loop rest loop.condition) (tested_waits saved loop rest h.0.0 h.0.1 h.1 loop.condition h.0.1.0)
  unfolded_closed objects only (again saved loop ∷ rest) h =
      all_waited objects only (continued saved loop rest loop.after) (continued_waits saved loop rest h.0.0 h.0.1 h.1 loop.after h.0.1.1)
  unfolded_closed objects only (begins tree ∷ rest) h = h
  unfolded_closed objects only (declares declarator expressions ∷ rest) h = h
  unfolded_closed objects only (initials at kind initialiser expressions ∷ rest) h = h
  unfolded_closed objects only (evaluates place run use_of ∷ rest) h = h
  unfolded_closed objects only (ends saved ∷ rest) h = h
  unfolded_closed objects only (ends_switch saved ∷ rest) h = h
  unfolded_closed objects only (leaves ∷ rest) h = h
  unfolded_closed objects only (skips ∷ rest) h = h
  unfolded_closed objects only (hands_back value ∷ rest) h = h

  -- ---- states

  definition_found : (functions : List Definition) (f : ℕ) (definition : Definition) → definition_in functions f ≡ Some definition
      → IsAmong definition functions
  definition_found [] f definition e = absurd (none_is_some definition e)
  definition_found (first ∷ rest) f definition e = by_bool (first.function == f) e (λ g. definition_found rest f definition g)
    where
      by_bool : (b : Bool) → (if b then Some first else definition_in rest f) ≡ Some definition
          → (definition_in rest f ≡ Some definition → IsAmong definition rest) → IsAmong definition (first ∷ rest)
      by_bool true g later = inl (sym (some_is_some first definition g))
      by_bool false g later = inr (later g)

  module _ (program : Program) (all : ProgramNamesOnly d program) (state : State) (s : IsUnreached n d state) where
    abbrev Was : Type 0
    Was = IsMade state.world.memory n

    -- behind a step, where the object was made before, or it is known what names it now
    abbrev Follows : State → Type 0
    Follows other = Was ⊎ OnlyNames n d other.frame.objects → IsUnreached n d other × (Was → IsMade other.world.memory n)

    one_closed : (x other : State) → Follows x → IsAmong other (x ∷ []) → Follows other
    one_closed x other h (inl e) = subst Follows (sym e) h
    one_closed x other h (inr k) = absurd k

    -- however the run stands
    stays : (standing : Standing) → Follows (record state { standing = standing })
    stays standing known = (record { memory = s.memory; statics = s.statics; frame = s.frame; callers = s.callers }, λ was. was)

    turned_closed : (t : Turned) → TurnsClosed Was state.statics s.statics t → Follows (turned state t)
    turned_closed (onward objects tasks memory) h known =
        let there = h known in (record { memory = there.2; statics = s.statics; frame = (there.0, there.1); callers = s.callers }, there.3)
    turned_closed (refused cause place) h known = stays (undefined cause place) known

    abbrev stage : Stage
    stage = record { scene = scene_of program state; closed = []; quiet = λ f. false }

    module _ (names : ℕ → ℕ) (fresh : IsFresh names state.world.memory) where
      new : Was → (i : ℕ) → names i ≡ n → ⊥
      new was = new_names names state.world.memory fresh was

      opened_only : (parameters : List ℕ) (count : ℕ) (ds : List ℕ) → Was ⊎ OnlyNames n d (named_from names count ds (named_from names 0 parameters []))
          → OnlyNames n d (named_from names count ds (named_from names 0 parameters []))
      opened_only parameters count ds (inl was) = named_only names (new was) count ds (named_from names 0 parameters []) (named_only names (new was) 0 parameters [] tt)
      opened_only parameters count ds (inr k) = k

      opened_closed : (rest : List Task) (place : Place) (use_of : Use) (kind : CType) (hole : Hole) (arguments : List Value) → AllWaitClosed n d rest
          → UseNamesOnly d use_of
          → ListAvoids n arguments
          → ((value : Value) → Avoids n value → IsClosedIn n (state.statics ++ state.frame.objects) (filled_in hole (done kind (of_value value) [])))
          → (o : Option Definition) → ((definition : Definition) → o ≡ Some definition → IsAmong definition program.functions)
          → Follows (opened program names state rest place use_of kind hole arguments o)
      opened_closed rest place use_of kind hole arguments waits u avoid resumes None found known = stays (undefined External place) known
      opened_closed rest place use_of kind hole arguments waits u avoid resumes (Some definition) found known =
          let items = parts_of definition.body in
          let ds = declared_in program items in
          let count = length definition.parameters in
          let given = given_from program names 0 definition.parameters arguments state.world.memory in
          let only = opened_only definition.parameters count ds known in (
            record {
              memory = made_avoid n program names count ds given (given_avoid n program names 0 definition.parameters arguments state.world.memory avoid s.memory);
              statics = s.statics;
              frame = (
                only,
                all_waited (state.statics ++ named_from names count ds (named_from names 0 definition.parameters []))
                    (only_join state.statics (named_from names count ds (named_from names 0 definition.parameters [])) s.statics only) (items_tasks items)
                    (items_wait items (all definition (found definition refl))),
              );
              callers = (record { objects = s.frame.0; tasks = waits; use_of = u; resumes = resumes }, s.callers);
            },
            λ was. made_made n program names count ds given (given_made n program names 0 definition.parameters arguments state.world.memory was),
          )

      moved_closed : (rest : List Task) (place : Place) (use_of : Use) (run : Run) → AllWaitClosed n d rest → UseNamesOnly d use_of
          → IsClosedIn n (state.statics ++ state.frame.objects) run → (m : Move Run Hole)
          → IsAmong m (moves (scene_of program state) state.world (locks_in run) run) → Follows (moved program names state rest place use_of m)
      moved_closed rest place use_of run waits u h (goes world later) k known =
          let clear = run_clear n (scene_of program state) state.world s.memory (locks_in run) run h (goes world later) k in (
            record { memory = clear.1; statics = s.statics; frame = (s.frame.0, ((clear.0, u), waits)); callers = s.callers },
            λ was. writes_made n state.world world stage run was (step_writes stage state.world (locks_in run) run later world k),
          )
      moved_closed rest place use_of run waits u h (calls f arguments kind hole) k known =
          let clear = run_clear n (scene_of program state) state.world s.memory (locks_in run) run h (calls f arguments kind hole) k in
          opened_closed rest place use_of kind hole arguments waits u clear.0 (λ value v. clear.1 value [] v) (definition_of program f)
          (λ definition e. definition_found program.functions f definition e) known
      moved_closed rest place use_of run waits u h (fails cause at) k known = stays (undefined cause at) known
      moved_closed rest place use_of run waits u h (exits status) k known = stays (exited status) known

      expression_closed : (rest : List Task) (place : Place) (use_of : Use) (run : Run) → AllWaitClosed n d rest → UseNamesOnly d use_of
          → IsClosedIn n (state.statics ++ state.frame.objects) run → (other : State)
          → IsAmong other (expression_steps program names state rest place use_of run) → Follows other
      expression_closed rest place use_of (done kind result locks) waits u h other k =
          one_closed _ other
          (turned_closed (concluded program state.frame.objects rest state.world.memory place use_of result)
          (concluded_closed Was state.statics s.statics program state.frame.objects s.frame.0 rest waits state.world.memory s.memory (λ was. was) place use_of result u h)) k
      expression_closed rest place use_of (to_do doing kind at parts) waits u h other k =
          let from = among-map_from (moved program names state rest place use_of) other _ k in
          subst Follows (sym from.2) (moved_closed rest place use_of (to_do doing kind at parts) waits u h from.0 from.1)

    -- ---- the end of a frame

    handed_closed : (value : Value) → Avoids n value → (callers : List Caller) → AreCallersClosed n d state.statics callers
        → Follows (handed_back state value callers)
    handed_closed value h [] k = stays (exited (status_of value))
    handed_closed value h (caller ∷ callers) k = by_bool (lacks_value caller.kind value)
      where
        by_bool : (b : Bool) → Follows (if b then record state { standing = undefined NoValue caller.place } else gone_back state value caller callers)
        by_bool true = stays (undefined NoValue caller.place)
        by_bool false = λ known. (
          record {
            memory = killed_avoids n (map (λ (entry : ℕ × ℕ). entry.1) state.frame.objects) state.world.memory s.memory;
            statics = s.statics;
            frame = (k.0.objects, ((k.0.resumes value h, k.0.use_of), k.0.tasks));
            callers = k.1;
          },
          λ was. killed_made n (map (λ (entry : ℕ × ℕ). entry.1) state.frame.objects) state.world.memory was,
        )

    gives_back : (value : Value) → Avoids n value → Follows (record state { frame = record state.frame { tasks = hands_back value ∷ [] } })
    gives_back value h known = (record { memory = s.memory; statics = s.statics; frame = (s.frame.0, (h, tt)); callers = s.callers }, λ was. was)

    brace_closed : Follows (closed program state)
    brace_closed = by_main (is_main (declaration_of program state.frame.function))
      where
        by_nothing : (b : Bool)
            → Follows (if b then record state { frame = record state.frame { tasks = hands_back unset ∷ [] } }
            else record state { standing = undefined NoValue (body_place (definition_of program state.frame.function) no_place) })
        by_nothing true = gives_back unset tt
        by_nothing false = stays (undefined NoValue (body_place (definition_of program state.frame.function) no_place))

        by_main : (b : Bool)
            → Follows (if b then record state { frame = record state.frame { tasks = hands_back (integer_value Int (pos 0)) ∷ [] } }
            else (if gives_nothing (type_declared program state.frame.function) then record state { frame = record state.frame { tasks = hands_back unset ∷ [] } }
            else record state { standing = undefined NoValue (body_place (definition_of program state.frame.function) no_place) }))
        by_main true = gives_back (integer_value Int (pos 0)) tt
        by_main false = by_nothing (gives_nothing (type_declared program state.frame.function))

    -- ---- all steps

    task_closed : (names : ℕ → ℕ) → IsFresh names state.world.memory → (tasks : List Task) → AreTasksClosed n d (state.statics ++ state.frame.objects) tasks
        → (other : State)
        → IsAmong other (task_steps program names state tasks) → Follows other
    task_closed names fresh [] h other k = one_closed _ other brace_closed k
    task_closed names fresh (begins tree ∷ rest) h other k =
        one_closed _ other
        (turned_closed (begin_statement program names state.frame.objects rest state.world.memory tree)
        (tree_closed Was state.statics s.statics program state.frame.objects s.frame.0 rest h.1 state.world.memory s.memory (λ was. was) names (λ was. new names fresh was) tree h.0)) k
    task_closed names fresh (declares declarator expressions ∷ rest) h other k =
        one_closed _ other
        (turned_closed (begin_declarator program state.frame.objects rest state.world.memory declarator expressions)
        (declarator_closed Was state.statics s.statics program state.frame.objects s.frame.0 rest h.1 state.world.memory s.memory (λ was. was) declarator expressions h.0)) k
    task_closed names fresh (initials at kind initialiser expressions ∷ rest) h other k =
        one_closed _ other
        (turned_closed (begin_initialiser program state.frame.objects rest state.world.memory at kind initialiser expressions)
        (initialiser_closed Was state.statics s.statics program state.frame.objects s.frame.0 rest h.1 state.world.memory s.memory (λ was. was) at kind initialiser expressions h.0)) k
    task_closed names fresh (evaluates place run use_of ∷ rest) h other k = expression_closed names fresh rest place use_of run h.1 h.0.1 h.0.0 other k
    task_closed names fresh (again saved loop ∷ rest) h other k = absurd k
    task_closed names fresh (tests saved loop ∷ rest) h other k = absurd k
    task_closed names fresh (ends saved ∷ rest) h other k =
        one_closed _ other
        (turned_closed (ended saved state.frame.objects rest state.world.memory)
        (ended_closed Was state.statics s.statics program state.frame.objects s.frame.0 rest h.1 state.world.memory s.memory (λ was. was) saved rest h.0 h.1)) k
    task_closed names fresh (ends_switch saved ∷ rest) h other k =
        one_closed _ other
        (turned_closed (ended saved state.frame.objects rest state.world.memory)
        (ended_closed Was state.statics s.statics program state.frame.objects s.frame.0 rest h.1 state.world.memory s.memory (λ was. was) saved rest h.0 h.1)) k
    task_closed names fresh (leaves ∷ rest) h other k =
        one_closed _ other
        (turned_closed (after_break state.frame.objects state.world.memory rest)
        (break_closed Was state.statics s.statics program state.frame.objects s.frame.0 rest h.1 state.world.memory s.memory (λ was. was) rest h.1)) k
    task_closed names fresh (skips ∷ rest) h other k =
        one_closed _ other
        (turned_closed (after_continue state.frame.objects state.world.memory rest)
        (continue_closed Was state.statics s.statics program state.frame.objects s.frame.0 rest h.1 state.world.memory s.memory (λ was. was) rest h.1)) k
    task_closed names fresh (hands_back value ∷ rest) h other k = one_closed _ other (handed_closed value h.0 state.callers s.callers) k

-- A step leaves such a state, where the object's address is nowhere taken; so it does where the object is new, or isn't made, if it is known what
-- names it then.
pub unreached_step : (n d : ℕ) (program : Program) → ProgramNamesOnly d program → (state other : State) → IsUnreached n d state → Step program state other
    → IsMade state.world.memory n ⊎ OnlyNames n d other.frame.objects → IsUnreached n d other × (IsMade state.world.memory n → IsMade other.world.memory n)
unreached_step n d program all state other s step =
    task_closed n d program all state s step.0 step.1 (unfolded state.frame.tasks)
    (unfolded_closed n d (state.statics ++ state.frame.objects) (only_join n d state.statics state.frame.objects s.statics s.frame.0) state.frame.tasks s.frame.1)
    other (from_steps state.standing (task_steps program step.0 state (unfolded state.frame.tasks)) other step.2).1

pub closed_step : (n d : ℕ) (program : Program) → ProgramNamesOnly d program → (state other : State) → IsClosedState n d state → Step program state other
    → IsClosedState n d other
closed_step n d program all state other s step =
    let next = unreached_step n d program all state other s.unreached step (inl s.made) in record { made = next.1 s.made; unreached = next.0 }
