-- A step from a state with more objects in memory is one from the state without them, unless that goes wrong, and leaves them alone.
use Rattle.std.specs.Prelude.{◌≡◌, refl, ◌⊎◌, ℕ, suc, ◌+◌, ◌==◌, Bool, true, false, List, [], ◌∷◌, ◌++◌, map, length, drop, Option, Some, None, pos, if◌then◌else◌}
use Rattle.std.proofs.Common.{arith, ap, sym, ◌∙◌, subst, inl, inr}
use Rattle.dm_token.specs.declared.place.Place.{Place}
use Rattle.dm_int.specs.declared.Kind.TheVariants.{Int}
use Rattle.dm_type.specs.CTypes.{CType, void}
use Rattle.dm_tree.specs.Trees.{Label, block as block_form, declare, full, if_statement, switch, while_loop, do_loop, for_loop, break, continue, return, Tree, Trees, node, no_trees, more_trees, listed, parts_of, Declarator, Initialiser, Initialisers, one_expression, in_braces, no_items, more_items, expressions_in}
use Rattle.dm_meaning.specs.declared.cause.Cause.{Cause}
use Rattle.dm_meaning.specs.declared.cause.Cause.TheVariants.{NoValue, External}
use Rattle.dm_meaning.specs.Among.{IsAmong}
use Rattle.dm_meaning.specs.Machines.{Standing, going, exited, undefined, Goes}
use Rattle.dm_meaning.specs.Simulation.{GoesWrong}
use Rattle.dm_meaning.specs.Values.{Name, numbered, literal_of, elsewhere, At, Value, integer_value, unset}
use Rattle.dm_meaning.specs.Objects.{Layout, all_zero}
use Rattle.dm_meaning.specs.Memory.{Memory, Block, look_up, look, new_block, contents_at, killed, written, IsFresh}
use Rattle.dm_meaning.specs.Programs.{Program, Definition, layout, declaration_of, definition_of}
use Rattle.dm_meaning.specs.Operations.{Result, of_value, Objects, object_named, Truth, holds, untold, truth_of, World}
use Rattle.dm_meaning.specs.Running.{Run, done, to_do, begun, all_begun, locks_in, locks_in_all, Hole, here, within, Holes, in_first, in_others, filled_in, all_filled_in}
use Rattle.dm_meaning.specs.Expressions.{Move, goes, calls, fails, exits, value_of}
use Rattle.dm_meaning.specs.States.{Loop, Use, drops, chooses, selects, repeats, continues, returns, initialises, Task, begins, declares, initials, evaluates, again, tests, ends, ends_switch, leaves, skips, hands_back, Caller, State}
use Rattle.dm_meaning.specs.Statements.{Turned, onward, refused, Local, with_expressions, evaluation, is_automatic, type_declared, named_from, declared_in, item_tasks_by, item_tasks, items_tasks, unlabelled, start_task, start_tasks, as_list, entered, memory_entered, begin_for, loop_with, on_one_tree, on_first_tree, on_option_tree, on_tree_if, returning, begin_form, begin_tree, begin_statement, initial_of, begin_declarator, part_tasks, count_items, value_listed, begin_initialiser, initial_value, selected_by, by_test, begins_one, concluded, tested, continued, unfolded, named_since, ended, after_break, after_continue}
use Rattle.dm_meaning.specs.Steps.{opened_frame, opened_memory, given_from, opened, lacks_value, gone_back, handed_back, is_main, gives_nothing, body_place, no_place, turned, moved, scene_of, expression_steps, task_steps, steps_from, next, Step}
use Rattle.dm_meaning.specs.Units.{static_numbers, statics_memory, argv_kind, arguments_for, start, Begins, machine_of}
use Rattle.dm_meaning.specs.Extending.{HasAll}
use Rattle.dm_meaning.specs.Lifetimes.{numbers_of}
use Rattle.dm_meaning.specs.Replaced.{Zipped}
use Rattle.dm_meaning.specs.MoreObjects.{IsMade, IsMadeName, ObjectsMade, LocksMade, UseSettled, TaskSettled, TasksSettled, FrameSettled, CallersSettled, IsSettled, Grown, with_memory, Spared}
use Rattle.dm_meaning.proofs.OptionLemmas.{none_is_some, some_is_some}
use Rattle.dm_meaning.proofs.ExtendLemmas.{same_contents}
use Rattle.dm_meaning.proofs.GrowLemmas.{grown_same, grown_join, grown_written, grown_killed, FreshFrom, AreApart, grown_made, objects_made, given_made, given_all, fresh_from, since_made}
use Rattle.dm_meaning.proofs.SpareRunLemmas.{name_made_later, locks_made_later, locks_made_joined, no_locks_made, TruthSpared, truth_spared, RunSpared, hole_locks, moves_spared}
use Rattle.dm_meaning.proofs.StateLemmas.{from_steps}

-- ---- what a state names has been made, also when more is made

abbrev pub Later : Memory → Memory → Type 0
Later memory later = (n : ℕ) → IsMade memory n → IsMade later n

use_later : (memory later : Memory) → Later memory later → (use_of : Use) → UseSettled memory use_of → UseSettled later use_of
use_later memory later grows drops h = tt
use_later memory later grows (chooses first second) h = tt
use_later memory later grows (selects items) h = tt
use_later memory later grows (repeats loop) h = tt
use_later memory later grows (continues loop) h = tt
use_later memory later grows returns h = tt
use_later memory later grows (initialises at kind) h = name_made_later memory later grows at.name h

objects_later : (memory later : Memory) → Later memory later → (objects : Objects) → ObjectsMade memory objects → ObjectsMade later objects
objects_later memory later grows objects h n k = grows n (h n k)

task_later : (memory later : Memory) → Later memory later → (task : Task) → TaskSettled memory task → TaskSettled later task
task_later memory later grows (begins tree) h = tt
task_later memory later grows (declares declarator expressions) h = tt
task_later memory later grows (initials at kind initialiser expressions) h = name_made_later memory later grows at.name h
task_later memory later grows (evaluates place run use_of) h = (locks_made_later memory later grows (locks_in run) h.0, use_later memory later grows use_of h.1)
task_later memory later grows (again objects loop) h = objects_later memory later grows objects h
task_later memory later grows (tests objects loop) h = objects_later memory later grows objects h
task_later memory later grows (ends objects) h = objects_later memory later grows objects h
task_later memory later grows (ends_switch objects) h = objects_later memory later grows objects h
task_later memory later grows leaves h = tt
task_later memory later grows skips h = tt
task_later memory later grows (hands_back value) h = tt

pub tasks_later : (memory later : Memory) → Later memory later → (tasks : List Task) → TasksSettled memory tasks → TasksSettled later tasks
tasks_later memory later grows [] h = tt
tasks_later memory later grows (task ∷ tasks) h = (task_later memory later grows task h.0, tasks_later memory later grows tasks h.1)

callers_later : (memory later : Memory) → Later memory later → (callers : List Caller) → CallersSettled memory callers → CallersSettled later callers
callers_later memory later grows [] h = tt
callers_later memory later grows (caller ∷ callers) h = (
  (
    (objects_later memory later grows caller.frame.objects h.0.0.0, tasks_later memory later grows caller.frame.tasks h.0.0.1),
    locks_made_later memory later grows (hole_locks caller.hole) h.0.1,
    use_later memory later grows caller.use_of h.0.2,
  ),
  callers_later memory later grows callers h.1,
)

tasks_joined : (memory : Memory) (xs ys : List Task) → TasksSettled memory xs → TasksSettled memory ys → TasksSettled memory (xs ++ ys)
tasks_joined memory [] ys h k = k
tasks_joined memory (x ∷ xs) ys h k = (h.0, tasks_joined memory xs ys h.1 k)

-- ---- tasks that name nothing

mutual
  pub begun_locks : (memory : Memory) (tree : Tree) → LocksMade memory (locks_in (begun tree))
  begun_locks memory (node label kind spans parts) = all_begun_locks memory parts

  all_begun_locks : (memory : Memory) (trees : Trees) → LocksMade memory (locks_in_all (all_begun trees))
  all_begun_locks memory no_trees = no_locks_made memory
  all_begun_locks memory (more_trees first rest) = locks_made_joined memory (locks_in (begun first)) (locks_in_all (all_begun rest)) (begun_locks memory first) (all_begun_locks memory rest)

locals_settled : (memory : Memory) (locals : List Local) → TasksSettled memory (map (λ (local : Local). declares local.declarator local.expressions) locals)
locals_settled memory [] = tt
locals_settled memory (local ∷ locals) = (tt, locals_settled memory locals)

item_settled : (memory : Memory) (item : Tree) (label : Label) (trees : List Tree) → TasksSettled memory (item_tasks_by item label trees)
item_settled memory item (declare lengths declarators) trees = locals_settled memory (with_expressions declarators (drop lengths trees))
item_settled memory item label trees = (tt, tt)

one_item_settled : (memory : Memory) (item : Tree) → TasksSettled memory (item_tasks item)
one_item_settled memory (node label kind spans trees) = item_settled memory (node label kind spans trees) label (listed trees)

pub items_settled : (memory : Memory) (items : List Tree) → TasksSettled memory (items_tasks items)
items_settled memory [] = tt
items_settled memory (item ∷ items) = tasks_joined memory (item_tasks item) (items_tasks items) (one_item_settled memory item) (items_settled memory items)

start_by_label : (memory : Memory) (tree : Tree) (label : Label) → TasksSettled memory (start_task tree label)
start_by_label memory tree (declare lengths declarators) = one_item_settled memory tree
start_by_label memory tree label = ((begun_locks memory tree, tt), tt)

start_settled : (memory : Memory) (start : Option Tree) → TasksSettled memory (start_tasks start)
start_settled memory None = tt
start_settled memory (Some (node label kind spans trees)) = start_by_label memory (node label kind spans trees) label

tested_settled : (memory : Memory) (objects : Objects) (loop : Loop) (rest : List Task) (condition : Option Tree) → ObjectsMade memory objects → TasksSettled memory rest → TasksSettled memory (tested objects loop rest condition)
tested_settled memory objects loop rest None h k = (tt, (h, k))
tested_settled memory objects loop rest (Some tree) h k = ((begun_locks memory tree, tt), k)

continued_settled : (memory : Memory) (objects : Objects) (loop : Loop) (rest : List Task) (after : Option Tree) → ObjectsMade memory objects → TasksSettled memory rest → TasksSettled memory (continued objects loop rest after)
continued_settled memory objects loop rest None h k = tested_settled memory objects loop rest loop.condition h k
continued_settled memory objects loop rest (Some tree) h k = ((begun_locks memory tree, tt), k)

pub unfolded_settled : (memory : Memory) (tasks : List Task) → TasksSettled memory tasks → TasksSettled memory (unfolded tasks)
unfolded_settled memory [] h = tt
unfolded_settled memory (begins tree ∷ rest) h = h
unfolded_settled memory (declares declarator expressions ∷ rest) h = h
unfolded_settled memory (initials at kind initialiser expressions ∷ rest) h = h
unfolded_settled memory (evaluates place run use_of ∷ rest) h = h
unfolded_settled memory (again objects loop ∷ rest) h = continued_settled memory objects loop rest loop.after h.0 h.1
unfolded_settled memory (tests objects loop ∷ rest) h = tested_settled memory objects loop rest loop.condition h.0 h.1
unfolded_settled memory (ends objects ∷ rest) h = h
unfolded_settled memory (ends_switch objects ∷ rest) h = h
unfolded_settled memory (leaves ∷ rest) h = h
unfolded_settled memory (skips ∷ rest) h = h
unfolded_settled memory (hands_back value ∷ rest) h = h

part_tasks_settled : (layout : Layout) (memory : Memory) (at : At) (kind : CType) (n : ℕ) (items : Initialisers) (expressions : List Tree) → IsMadeName memory at.name → TasksSettled memory (part_tasks layout at kind n items expressions)
part_tasks_settled layout memory at kind n no_items expressions h = tt
part_tasks_settled layout memory at kind n (more_items item items) expressions h = (h, part_tasks_settled layout memory at kind (suc n) items (drop (expressions_in item) expressions) h)

named_among : (objects : Objects) (d n : ℕ) → object_named objects d ≡ Some n → IsAmong n (numbers_of objects)
named_among [] d n e = absurd (none_is_some n e)
named_among (entry ∷ entries) d n e = by_case (entry.0 == d) e (named_among entries d n)
  where
    by_case : (b : Bool) → (if b then Some entry.1 else object_named entries d) ≡ Some n → (object_named entries d ≡ Some n → IsAmong n (numbers_of entries)) → IsAmong n (numbers_of (entry ∷ entries))
    by_case true f later = inl (sym (some_is_some entry.1 n f))
    by_case false f later = inr (later f)

mutual
  -- the locks of a tree don't depend on a value without locks in it
  filled_locks : (hole : Hole) (kind : CType) (result : Result) → locks_in (filled_in hole (done kind result [])) ≡ hole_locks hole
  filled_locks here kind result = refl
  filled_locks (within doing own place holes) kind result = all_filled_locks holes kind result

  all_filled_locks : (holes : Holes) (kind : CType) (result : Result) → locks_in_all (all_filled_in holes (done kind result [])) ≡ locks_in_all (all_filled_in holes (done void (of_value unset) []))
  all_filled_locks (in_first hole rest) kind result = ap (λ l. l ++ locks_in_all rest) (filled_locks hole kind result)
  all_filled_locks (in_others first holes) kind result = ap (λ l. locks_in first ++ l) (all_filled_locks holes kind result)

-- ---- statements

-- the object of a name that has been made is the same where there are more
same_made : (memory more : Memory) → HasAll more memory → (name : Name) → IsMadeName memory name → look more name ≡ look memory name
same_made memory more has (numbered n) h = has n h.0 h.1 ∙ sym h.1
same_made memory more has (literal_of bytes unit) h = refl
same_made memory more has (elsewhere identifier) h = refl

-- the same turn, unless it is refused without the spare objects
abbrev pub TurnedSpared : Memory → Memory → Turned → Turned → Type 0
TurnedSpared more memory t (refused cause place) = Unit {0}
TurnedSpared more memory (onward objects tasks after) (onward others other_tasks later) =
    (objects ≡ others) × (tasks ≡ other_tasks) × Grown more memory after later × ObjectsMade later others × TasksSettled later other_tasks
TurnedSpared more memory (refused cause place) (onward others other_tasks later) = ⊥

module _ (program : Program) (names : ℕ → ℕ) (objects : Objects) (memory more : Memory) (has : HasAll more memory) (apart : AreApart names) (fresh : FreshFrom names 0 more)
    (made : ObjectsMade memory objects) where
  abbrev Same : Turned → Turned → Type 0
  Same t u = TurnedSpared more memory t u

  stays : (tasks : List Task) → TasksSettled memory tasks → Same (onward objects tasks more) (onward objects tasks memory)
  stays tasks h = (refl, refl, grown_same more memory has, made, h)

  one_tree_spared : (trees : List Tree) (following other : Tree → Turned) (a b : Turned) → ((x : Tree) → Same (following x) (other x)) → Same a b → Same (on_one_tree trees following a) (on_one_tree trees other b)
  one_tree_spared [] following other a b h k = k
  one_tree_spared (x ∷ []) following other a b h k = h x
  one_tree_spared (x ∷ y ∷ rest) following other a b h k = k

  first_tree_spared : (trees : List Tree) (following other : Tree → List Tree → Turned) (a b : Turned) → ((x : Tree) (xs : List Tree) → Same (following x xs) (other x xs)) → Same a b
      → Same (on_first_tree trees following a) (on_first_tree trees other b)
  first_tree_spared [] following other a b h k = k
  first_tree_spared (x ∷ rest) following other a b h k = h x rest

  option_tree_spared : (trees : List Tree) (following other : Option Tree → Turned) (a b : Turned) → ((x : Option Tree) → Same (following x) (other x)) → Same a b
      → Same (on_option_tree trees following a) (on_option_tree trees other b)
  option_tree_spared [] following other a b h k = h None
  option_tree_spared (x ∷ []) following other a b h k = h (Some x)
  option_tree_spared (x ∷ y ∷ rest) following other a b h k = k

  if_tree_spared : (there : Bool) (trees : List Tree) (following other : Option Tree → List Tree → Turned) (a b : Turned) → ((x : Option Tree) (xs : List Tree) → Same (following x xs) (other x xs)) → Same a b
      → Same (on_tree_if there trees following a) (on_tree_if there trees other b)
  if_tree_spared false trees following other a b h k = h None trees
  if_tree_spared true [] following other a b h k = k
  if_tree_spared true (x ∷ rest) following other a b h k = h (Some x) rest

  module _ (rest : List Task) (settled : TasksSettled memory rest) where
    ends_here : TasksSettled memory (ends objects ∷ rest)
    ends_here = (made, settled)

    otherwise : Same (onward objects (ends objects ∷ rest) more) (onward objects (ends objects ∷ rest) memory)
    otherwise = stays (ends objects ∷ rest) ends_here

    block_spared : (items : List Tree) → Same (begin_form program names objects rest more block_form items) (begin_form program names objects rest memory block_form items)
    block_spared items =
        let grown = grown_made program names 0 (declared_in program items) more memory apart fresh has in
        let later = memory_entered program names items memory in (
          refl,
          refl,
          grown,
          objects_made program names 0 (declared_in program items) memory objects made,
          tasks_joined later (items_tasks items) (ends objects ∷ rest) (items_settled later items) (tasks_later memory later grown.made (ends objects ∷ rest) ends_here),
        )

    for_spared : (start : Option Tree) (loop : Loop) → Same (begin_for program names objects rest more start loop) (begin_for program names objects rest memory start loop)
    for_spared start loop =
        let grown = grown_made program names 0 (declared_in program (as_list start)) more memory apart fresh has in
        let later = memory_entered program names (as_list start) memory in
        let inner = objects_made program names 0 (declared_in program (as_list start)) memory objects made in (
          refl,
          refl,
          grown,
          inner,
          tasks_joined later (start_tasks start) (tests (entered program names (as_list start) objects) loop ∷ ends objects ∷ rest) (start_settled later start)
              (inner, tasks_later memory later grown.made (ends objects ∷ rest) ends_here),
        )

    returning_spared : (o : Option Tree) → Same (returning objects more o) (returning objects memory o)
    returning_spared None = stays (hands_back unset ∷ []) (tt, tt)
    returning_spared (Some tree) = stays (evaluation tree returns ∷ []) ((begun_locks memory tree, tt), tt)

    evaluating : (tree : Tree) (use_of : Use) (behind : List Task) → UseSettled memory use_of → TasksSettled memory behind
        → Same (onward objects (evaluation tree use_of ∷ behind) more) (onward objects (evaluation tree use_of ∷ behind) memory)
    evaluating tree use_of behind h k = stays (evaluation tree use_of ∷ behind) ((begun_locks memory tree, h), k)

    begin_spared : (label : Label) (trees : List Tree) → Same (begin_form program names objects rest more label trees) (begin_form program names objects rest memory label trees)
    begin_spared block_form trees = block_spared trees
    begin_spared full trees = one_tree_spared trees _ _ _ _ (λ x. evaluating x drops (ends objects ∷ rest) tt ends_here) otherwise
    begin_spared if_statement trees =
        first_tree_spared trees _ _ _ _
        (λ x xs. first_tree_spared xs _ _ _ _ (λ y ys. option_tree_spared ys _ _ _ _ (λ z. evaluating x (chooses y z) (ends objects ∷ rest) tt ends_here) otherwise) otherwise) otherwise
    begin_spared switch trees =
        first_tree_spared trees _ _ _ _ (λ x xs. stays (evaluation x (selects xs) ∷ ends_switch objects ∷ rest) ((begun_locks memory x, tt), ends_here)) otherwise
    begin_spared while_loop trees =
        first_tree_spared trees _ _ _ _ (λ x xs. one_tree_spared xs _ _ _ _ (λ y. stays (tests objects (loop_with (Some x) None y) ∷ ends objects ∷ rest) (made, ends_here)) otherwise) otherwise
    begin_spared do_loop trees =
        first_tree_spared trees _ _ _ _ (λ x xs. one_tree_spared xs _ _ _ _ (λ y. stays (begins x ∷ again objects (loop_with (Some y) None x) ∷ ends objects ∷ rest) (tt, (made, ends_here))) otherwise) otherwise
    begin_spared (for_loop first second third) trees =
        if_tree_spared first trees _ _ _ _
        (λ x xs. if_tree_spared second xs _ _ _ _
        (λ y ys. if_tree_spared third ys _ _ _ _
        (λ z zs. one_tree_spared zs _ _ _ _ (λ b. for_spared x (loop_with y z b)) otherwise)
        otherwise)
        otherwise)
        otherwise
    begin_spared break trees = stays (leaves ∷ rest) (tt, settled)
    begin_spared continue trees = stays (skips ∷ rest) (tt, settled)
    begin_spared return trees = option_tree_spared trees (returning objects more) (returning objects memory) _ _ returning_spared otherwise
    begin_spared label trees = otherwise

    statement_spared : (tree : Tree) → Same (begin_tree program names objects rest more tree) (begin_tree program names objects rest memory tree)
    statement_spared (node label kind spans trees) = begin_spared label (listed trees)

    initial_settled : (kind : CType) (d : ℕ) (o : Option ℕ) (initialiser : Option Initialiser) (trees : List Tree) → object_named objects d ≡ o → TasksSettled memory (initial_of kind o initialiser trees)
    initial_settled kind d None None trees e = tt
    initial_settled kind d None (Some initialiser) trees e = tt
    initial_settled kind d (Some n) None trees e = tt
    initial_settled kind d (Some n) (Some initialiser) trees e = (made n (named_among objects d n e), tt)

    if_settled : (b : Bool) (tasks : List Task) → TasksSettled memory tasks → TasksSettled memory (if b then tasks else [])
    if_settled true tasks h = h
    if_settled false tasks h = tt

    declarator_spared : (declarator : Declarator) (trees : List Tree) → Same (begin_declarator program objects rest more declarator trees) (begin_declarator program objects rest memory declarator trees)
    declarator_spared declarator trees =
        let tasks = initial_of (type_declared program declarator.declared) (object_named objects declarator.declared) declarator.initialiser trees in
        stays ((if is_automatic program declarator then tasks else []) ++ rest)
        (tasks_joined memory (if is_automatic program declarator then tasks else []) rest
        (if_settled (is_automatic program declarator) tasks (initial_settled (type_declared program declarator.declared) declarator.declared (object_named objects declarator.declared) declarator.initialiser trees refl)) settled)

    initialiser_spared : (at : At) (kind : CType) (initialiser : Initialiser) (trees : List Tree) → IsMadeName memory at.name
        → Same (begin_initialiser program objects rest more at kind initialiser trees) (begin_initialiser program objects rest memory at kind initialiser trees)
    initialiser_spared at kind one_expression trees h = one_tree_spared trees _ _ _ _ (λ x. evaluating x (initialises at kind) rest h settled) (stays rest settled)
    initialiser_spared at kind (in_braces items) trees h =
        let listed_as = value_listed (layout program) kind (count_items items) in
        let value = listed_as (contents_at memory at) in
        let same = ap listed_as (sym (same_contents memory more at (same_made memory more has at.name h))) in
        let grown = subst (λ v. Grown more memory (written more at v) (written memory at value)) same (grown_written at.name at.path value more memory has h) in
        let later = written memory at value in (
          refl,
          refl,
          grown,
          objects_later memory later grown.made objects made,
          tasks_joined later (part_tasks (layout program) at kind 0 items trees) rest
              (part_tasks_settled (layout program) later at kind 0 items trees (name_made_later memory later grown.made at.name h)) (tasks_later memory later grown.made rest settled),
        )

    test_spared : (place : Place) (truth wider : Truth) (following other : Bool → Turned) → TruthSpared wider truth → ((b : Bool) → Same (following b) (other b))
        → Same (by_test place wider following) (by_test place truth other)
    test_spared place (untold cause) wider following other h k = tt
    test_spared place (holds b) (holds a) following other h k = subst (λ x. Same (following x) (other b)) (sym h) (k b)
    test_spared place (holds b) (untold cause) following other h k = absurd h

    begins_settled : (b : Bool) (first : Tree) (second : Option Tree) → TasksSettled memory (begins_one (if b then Some first else second) ++ rest)
    begins_settled true first second = (tt, settled)
    begins_settled false first None = settled
    begins_settled false first (Some tree) = (tt, settled)

    repeats_settled : (b : Bool) (loop : Loop) → TasksSettled memory (if b then begins loop.body ∷ again objects loop ∷ rest else rest)
    repeats_settled true loop = (tt, (made, settled))
    repeats_settled false loop = settled

    conclusion_spared : (place : Place) (use_of : Use) (result : Result) → UseSettled memory use_of → Same (concluded program objects rest more place use_of result) (concluded program objects rest memory place use_of result)
    conclusion_spared place drops result h = stays rest settled
    conclusion_spared place (chooses first second) result h =
        test_spared place (truth_of memory (value_of result)) (truth_of more (value_of result)) _ _ (truth_spared memory more has (value_of result)) (λ b. stays _ (begins_settled b first second))
    conclusion_spared place (selects items) result h =
        stays _ (tasks_joined memory (items_tasks (selected_by program (value_of result) items)) rest (items_settled memory (selected_by program (value_of result) items)) settled)
    conclusion_spared place (repeats loop) result h =
        test_spared place (truth_of memory (value_of result)) (truth_of more (value_of result)) _ _ (truth_spared memory more has (value_of result)) (λ b. stays _ (repeats_settled b loop))
    conclusion_spared place (continues loop) result h = stays (tests objects loop ∷ rest) (made, settled)
    conclusion_spared place returns result h = stays (hands_back (value_of result) ∷ []) (tt, tt)
    conclusion_spared place (initialises at kind) result h =
        let value = initial_value kind result in
        let grown = grown_written at.name at.path value more memory has h in
        (refl, refl, grown, objects_later memory (written memory at value) grown.made objects made, tasks_later memory (written memory at value) grown.made rest settled)

  ended_spared : (saved : Objects) (tasks : List Task) → ObjectsMade memory saved → TasksSettled memory tasks → Same (ended saved objects tasks more) (ended saved objects tasks memory)
  ended_spared saved tasks h k =
      let numbers = named_since saved objects in
      let grown = grown_killed numbers more memory has (since_made memory saved objects made) in
      (refl, refl, grown, objects_later memory (killed numbers memory) grown.made saved h, tasks_later memory (killed numbers memory) grown.made tasks k)

  break_spared : (tasks : List Task) → TasksSettled memory tasks → Same (after_break objects more tasks) (after_break objects memory tasks)
  break_spared [] h = stays [] tt
  break_spared (again saved loop ∷ rest) h = ended_spared saved rest h.0 h.1
  break_spared (ends_switch saved ∷ rest) h = ended_spared saved (ends_switch saved ∷ rest) h.0 h
  break_spared (begins tree ∷ rest) h = break_spared rest h.1
  break_spared (declares declarator expressions ∷ rest) h = break_spared rest h.1
  break_spared (initials at kind initialiser expressions ∷ rest) h = break_spared rest h.1
  break_spared (evaluates place run use_of ∷ rest) h = break_spared rest h.1
  break_spared (tests saved loop ∷ rest) h = break_spared rest h.1
  break_spared (ends saved ∷ rest) h = break_spared rest h.1
  break_spared (leaves ∷ rest) h = break_spared rest h.1
  break_spared (skips ∷ rest) h = break_spared rest h.1
  break_spared (hands_back value ∷ rest) h = break_spared rest h.1

  continue_spared : (tasks : List Task) → TasksSettled memory tasks → Same (after_continue objects more tasks) (after_continue objects memory tasks)
  continue_spared [] h = stays [] tt
  continue_spared (again saved loop ∷ rest) h = ended_spared saved (again saved loop ∷ rest) h.0 h
  continue_spared (ends_switch saved ∷ rest) h = continue_spared rest h.1
  continue_spared (begins tree ∷ rest) h = continue_spared rest h.1
  continue_spared (declares declarator expressions ∷ rest) h = continue_spared rest h.1
  continue_spared (initials at kind initialiser expressions ∷ rest) h = continue_spared rest h.1
  continue_spared (evaluates place run use_of ∷ rest) h = continue_spared rest h.1
  continue_spared (tests saved loop ∷ rest) h = continue_spared rest h.1
  continue_spared (ends saved ∷ rest) h = continue_spared rest h.1
  continue_spared (leaves ∷ rest) h = continue_spared rest h.1
  continue_spared (skips ∷ rest) h = continue_spared rest h.1
  continue_spared (hands_back value ∷ rest) h = continue_spared rest h.1

-- ---- states

zipped_among : {X Y : Type 0} (R : X → Y → Type 0) (xs : List X) (ys : List Y) → Zipped R xs ys → (x : X) → IsAmong x xs → (y : Y) × IsAmong y ys × R x y
zipped_among R [] ys h x k = absurd k
zipped_among R (first ∷ xs) [] h x k = absurd h
zipped_among R (first ∷ xs) (other ∷ ys) h x (inl e) = (other, inl refl, subst (λ z. R z other) (sym e) h.0)
zipped_among R (first ∷ xs) (other ∷ ys) h x (inr k) = let rest = zipped_among R xs ys h.1 x k in (rest.0, inr rest.1, rest.2)

zipped_mapped : {X Y A B : Type 0} (R : X → Y → Type 0) (S : A → B → Type 0) (f : X → A) (g : Y → B) → ((x : X) (y : Y) → R x y → S (f x) (g y)) → (xs : List X) (ys : List Y) → Zipped R xs ys → Zipped S (map f xs) (map g ys)
zipped_mapped R S f g h [] [] k = tt
zipped_mapped R S f g h [] (y ∷ ys) k = absurd k
zipped_mapped R S f g h (x ∷ xs) [] k = absurd k
zipped_mapped R S f g h (x ∷ xs) (y ∷ ys) k = (h x y k.0, zipped_mapped R S f g h xs ys k.1)

fresh_below : (names : ℕ → ℕ) (more memory : Memory) → HasAll more memory → IsFresh names more → IsFresh names memory
fresh_below names more memory has fresh = (fresh.0, λ i. absent i (look_up memory (names i)) refl)
  where
    absent : (i : ℕ) (o : Option Block) → look_up memory (names i) ≡ o → look_up memory (names i) ≡ None
    absent i None e = e
    absent i (Some block) e = absurd (none_is_some block (sym (fresh.1 i) ∙ has (names i) block e))

-- whatever a frame names when it is opened has been made
pub opened_settled : (program : Program) (names : ℕ → ℕ) (definition : Definition) (arguments : List Value) (memory : Memory)
    → FrameSettled (opened_memory program names definition arguments memory) (opened_frame program names definition)
opened_settled program names definition arguments memory =
    let ps = definition.parameters in
    let items = parts_of definition.body in (
      objects_made program names (length ps) (declared_in program items) (given_from program names 0 ps arguments memory) (named_from names 0 ps [])
          (given_made program names 0 ps arguments memory [] (λ n k. absurd k)),
      items_settled (opened_memory program names definition arguments memory) items,
    )

module _ (program : Program) (names : ℕ → ℕ) (state : State) (more : Memory) (settled : IsSettled state) (has : HasAll more state.world.memory) (fresh : IsFresh names more) where
  abbrev wide : State
  wide = with_memory state more

  abbrev memory : Memory
  memory = state.world.memory

  -- the first state is the second with more objects, unless that is undefined
  abbrev StateSpared : State → State → Type 0
  StateSpared later other =
      ((cause : Cause) × (place : Place) × (other.standing ≡ undefined cause place))
      ⊎ ((after : Memory) × (later ≡ with_memory other after) × IsSettled other × Grown more memory after other.world.memory)

  turned_spared : (t u : Turned) → TurnedSpared more memory t u → StateSpared (turned wide t) (turned state u)
  turned_spared t (refused cause place) h = inl (cause, place, refl)
  turned_spared (refused cause place) (onward others other_tasks later) h = absurd h
  turned_spared (onward objects tasks after) (onward others other_tasks later) h =
      inr (
        after,
        (λ i. record wide { frame = record state.frame { objects = h.0 i; tasks = h.1 i }; world = record state.world { memory = after } }),
        record { frame = (h.3, h.4); callers = callers_later memory later h.2.made state.callers settled.callers },
        h.2,
      )

  one_spared : (t u : Turned) → TurnedSpared more memory t u → Zipped StateSpared (turned wide t ∷ []) (turned state u ∷ [])
  one_spared t u h = (turned_spared t u h, tt)

  unchanged : (other : State) → other.world ≡ state.world → IsSettled other → StateSpared (with_memory other more) other
  unchanged other e h = inr (more, refl, h, subst (λ (w : World). Grown more memory more w.memory) (sym e) (grown_same more memory has))

  handing : (value : Value) → IsSettled (record state { frame = record state.frame { tasks = hands_back value ∷ [] } })
  handing value = record { frame = (settled.frame.0, (tt, tt)); callers = settled.callers }

  closed_spared : (a b : Bool) → StateSpared
      (if a then record wide { frame = record state.frame { tasks = hands_back (integer_value Int (pos 0)) ∷ [] } }
      else if b then record wide { frame = record state.frame { tasks = hands_back unset ∷ [] } }
      else record wide { standing = undefined NoValue (body_place (definition_of program state.frame.function) no_place) })
      (if a then record state { frame = record state.frame { tasks = hands_back (integer_value Int (pos 0)) ∷ [] } }
      else if b then record state { frame = record state.frame { tasks = hands_back unset ∷ [] } }
      else record state { standing = undefined NoValue (body_place (definition_of program state.frame.function) no_place) })
  closed_spared true b = unchanged _ refl (handing (integer_value Int (pos 0)))
  closed_spared false true = unchanged _ refl (handing unset)
  closed_spared false false = inl (NoValue, body_place (definition_of program state.frame.function) no_place, refl)

  gone_spared : (value : Value) (caller : Caller) (callers : List Caller) → CallersSettled memory (caller ∷ callers) → StateSpared (gone_back wide value caller callers) (gone_back state value caller callers)
  gone_spared value caller callers h =
      let numbers = numbers_of state.frame.objects in
      let grown = grown_killed numbers more memory has settled.frame.0 in
      let later = killed numbers memory in
      inr (
        killed numbers more,
        refl,
        record {
          frame = (
            objects_later memory later grown.made caller.frame.objects h.0.0.0,
            (
              (
                locks_made_later memory later grown.made (locks_in (filled_in caller.hole (done caller.kind (of_value value) [])))
                    (subst (LocksMade memory) (sym (filled_locks caller.hole caller.kind (of_value value))) h.0.1),
                use_later memory later grown.made caller.use_of h.0.2,
              ),
              tasks_later memory later grown.made caller.frame.tasks h.0.0.1,
            ),
          );
          callers = callers_later memory later grown.made callers h.1;
        },
        grown,
      )

  back_spared : (value : Value) (callers : List Caller) → CallersSettled memory callers → StateSpared (handed_back wide value callers) (handed_back state value callers)
  back_spared value [] h = unchanged _ refl (record { frame = settled.frame; callers = settled.callers })
  back_spared value (caller ∷ callers) h = by_lack (lacks_value caller.kind value)
    where
      by_lack : (b : Bool) → StateSpared (if b then record wide { standing = undefined NoValue caller.place } else gone_back wide value caller callers)
          (if b then record state { standing = undefined NoValue caller.place } else gone_back state value caller callers)
      by_lack true = inl (NoValue, caller.place, refl)
      by_lack false = gone_spared value caller callers h

  module _ (rest : List Task) (rest_settled : TasksSettled memory rest) (place : Place) (use_of : Use) (use_settled : UseSettled memory use_of) where
    opened_spared : (kind : CType) (hole : Hole) (arguments : List Value) → LocksMade memory (hole_locks hole) → (o : Option Definition)
        → StateSpared (opened program names wide rest place use_of kind hole arguments o) (opened program names state rest place use_of kind hole arguments o)
    opened_spared kind hole arguments h None = inl (External, place, refl)
    opened_spared kind hole arguments h (Some definition) =
        let ps = definition.parameters in
        let items = parts_of definition.body in
        let given = given_all program names 0 ps arguments more memory fresh.0 (fresh_from names more fresh) has in
        let wide_given = given_from program names 0 ps arguments more in
        let narrow_given = given_from program names 0 ps arguments memory in
        let made = grown_made program names (length ps) (declared_in program items) wide_given narrow_given fresh.0 (λ k l. given.fresh k (omega (arith, l))) given.grown.has in
        let later = opened_memory program names definition arguments memory in
        let grown = grown_join more memory wide_given narrow_given (opened_memory program names definition arguments more) later given.grown made in
        inr (
          opened_memory program names definition arguments more,
          refl,
          record {
            frame = opened_settled program names definition arguments memory;
            callers = (
              (
                (objects_later memory later grown.made state.frame.objects settled.frame.0, tasks_later memory later grown.made rest rest_settled),
                locks_made_later memory later grown.made (hole_locks hole) h,
                use_later memory later grown.made use_of use_settled,
              ),
              callers_later memory later grown.made state.callers settled.callers,
            );
          },
          grown,
        )

    moved_spared : (m n : Move Run Hole) → RunSpared more memory m n → StateSpared (moved program names wide rest place use_of m) (moved program names state rest place use_of n)
    moved_spared m (fails cause at) h = inl (cause, at, refl)
    moved_spared (goes after run) (goes later other) h =
        inr (
          after.memory,
          (λ i. record wide {
            frame = record state.frame { tasks = evaluates place (h.1 i) use_of ∷ rest };
            world = record { memory = after.memory; input = h.0.1 i; output = h.0.2 i };
          }),
          record {
            frame = (
              objects_later memory later.memory h.0.0.made state.frame.objects settled.frame.0,
              ((h.2, use_later memory later.memory h.0.0.made use_of use_settled), tasks_later memory later.memory h.0.0.made rest rest_settled),
            );
            callers = callers_later memory later.memory h.0.0.made state.callers settled.callers;
          },
          h.0.0,
        )
    moved_spared (goes after run) (calls g others other k) h = absurd h
    moved_spared (goes after run) (exits other) h = absurd h
    moved_spared (calls f arguments kind hole) (goes later other) h = absurd h
    moved_spared (calls f arguments kind hole) (calls g others other k) h =
        subst (λ x. StateSpared (opened program names wide rest place use_of kind hole arguments (definition_of program x)) (opened program names state rest place use_of other k others (definition_of program g))) (sym h.0)
        (subst (λ x. StateSpared (opened program names wide rest place use_of kind hole x (definition_of program g)) (opened program names state rest place use_of other k others (definition_of program g))) (sym h.1)
        (subst (λ x. StateSpared (opened program names wide rest place use_of x hole others (definition_of program g)) (opened program names state rest place use_of other k others (definition_of program g))) (sym h.2)
        (subst (λ x. StateSpared (opened program names wide rest place use_of other x others (definition_of program g)) (opened program names state rest place use_of other k others (definition_of program g))) (sym h.3)
        (opened_spared other k others h.4 (definition_of program g)))))
    moved_spared (calls f arguments kind hole) (exits other) h = absurd h
    moved_spared (fails cause at) (goes later other) h = absurd h
    moved_spared (fails cause at) (calls g others other k) h = absurd h
    moved_spared (fails cause at) (exits other) h = absurd h
    moved_spared (exits status) (goes later other) h = absurd h
    moved_spared (exits status) (calls g others other k) h = absurd h
    moved_spared (exits status) (exits other) h =
        subst (λ x. StateSpared (record wide { standing = exited x }) (record state { standing = exited other })) (sym h)
        (unchanged (record state { standing = exited other }) refl (record { frame = settled.frame; callers = settled.callers }))

    expression_spared : (run : Run) → LocksMade memory (locks_in run) → Zipped StateSpared (expression_steps program names wide rest place use_of run) (expression_steps program names state rest place use_of run)
    expression_spared (done kind result locks) h =
        one_spared _ _ (conclusion_spared program names state.frame.objects memory more has fresh.0 (fresh_from names more fresh) settled.frame.0 rest rest_settled place use_of result use_settled)
    expression_spared (to_do doing kind at parts) h =
        let run = to_do doing kind at parts in
        zipped_mapped (RunSpared more memory) StateSpared (moved program names wide rest place use_of) (moved program names state rest place use_of) moved_spared _ _
        (moves_spared (scene_of program state) state.world more has (locks_in run) run h)

  tasks_spared : (tasks : List Task) → TasksSettled memory tasks → Zipped StateSpared (task_steps program names wide tasks) (task_steps program names state tasks)
  tasks_spared [] h = (closed_spared (is_main (declaration_of program state.frame.function)) (gives_nothing (type_declared program state.frame.function)), tt)
  tasks_spared (begins tree ∷ rest) h =
      one_spared (begin_statement program names state.frame.objects rest more tree) (begin_statement program names state.frame.objects rest memory tree)
      (statement_spared program names state.frame.objects memory more has fresh.0 (fresh_from names more fresh) settled.frame.0 rest h.1 (unlabelled tree))
  tasks_spared (declares declarator trees ∷ rest) h =
      one_spared (begin_declarator program state.frame.objects rest more declarator trees) (begin_declarator program state.frame.objects rest memory declarator trees)
      (declarator_spared program names state.frame.objects memory more has fresh.0 (fresh_from names more fresh) settled.frame.0 rest h.1 declarator trees)
  tasks_spared (initials at kind initialiser trees ∷ rest) h =
      one_spared (begin_initialiser program state.frame.objects rest more at kind initialiser trees) (begin_initialiser program state.frame.objects rest memory at kind initialiser trees)
      (initialiser_spared program names state.frame.objects memory more has fresh.0 (fresh_from names more fresh) settled.frame.0 rest h.1 at kind initialiser trees h.0)
  tasks_spared (evaluates place run use_of ∷ rest) h = expression_spared rest h.1 place use_of h.0.1 run h.0.0
  tasks_spared (again saved loop ∷ rest) h = tt
  tasks_spared (tests saved loop ∷ rest) h = tt
  tasks_spared (ends saved ∷ rest) h =
      one_spared (ended saved state.frame.objects rest more) (ended saved state.frame.objects rest memory)
      (ended_spared program names state.frame.objects memory more has fresh.0 (fresh_from names more fresh) settled.frame.0 saved rest h.0 h.1)
  tasks_spared (ends_switch saved ∷ rest) h =
      one_spared (ended saved state.frame.objects rest more) (ended saved state.frame.objects rest memory)
      (ended_spared program names state.frame.objects memory more has fresh.0 (fresh_from names more fresh) settled.frame.0 saved rest h.0 h.1)
  tasks_spared (leaves ∷ rest) h =
      one_spared (after_break state.frame.objects more rest) (after_break state.frame.objects memory rest)
      (break_spared program names state.frame.objects memory more has fresh.0 (fresh_from names more fresh) settled.frame.0 rest h.1)
  tasks_spared (skips ∷ rest) h =
      one_spared (after_continue state.frame.objects more rest) (after_continue state.frame.objects memory rest)
      (continue_spared program names state.frame.objects memory more has fresh.0 (fresh_from names more fresh) settled.frame.0 rest h.1)
  tasks_spared (hands_back value ∷ rest) h = (back_spared value state.callers settled.callers, tt)

  steps_again : (standing : Standing) (states : List State) (x : State) → standing ≡ going → IsAmong x states → IsAmong x (steps_from standing states)
  steps_again standing states x e h = subst (λ s. IsAmong x (steps_from s states)) (sym e) h

  goes_once : (s t : State) → Step program s t → Goes (machine_of program) 1 s t
  unfolding Goes
  goes_once s t step = (t, step, refl)

  pub next_spared : (later : State) → IsAmong later (next names program wide) → GoesWrong (machine_of program) state ⊎ Spared program state later more
  next_spared later among =
      let from = from_steps state.standing _ later among in
      let met = zipped_among StateSpared _ _ (tasks_spared (unfolded state.frame.tasks) (unfolded_settled memory state.frame.tasks settled.frame.1)) later from.1 in
      by_case met.0 (names, fresh_below names more memory has fresh, steps_again state.standing _ met.0 from.0 met.1) met.2
    where
      by_case : (other : State) → Step program state other → StateSpared later other → GoesWrong (machine_of program) state ⊎ Spared program state later more
      by_case other step (inl (cause, place, e)) = inl (1, other, goes_once state other step, cause, place, e)
      by_case other step (inr (after, is, other_settled, grown)) =
          inr (record { next = other; after = after; step = step; is = is; settled = other_settled; grown = grown })

-- A step beside more objects is one without them, and leaves them alone.
pub spared_steps : (program : Program) (state later : State) (more : Memory) → IsSettled state → HasAll more state.world.memory → Step program (with_memory state more) later
    → GoesWrong (machine_of program) state ⊎ Spared program state later more
spared_steps program state later more settled has step = next_spared program step.0 state more settled has step.1 later step.2

-- ---- beginnings

-- Whatever a state names at the beginning of a run has been made.
pub settled_beginnings : (program : Program) (input : List ℕ) (state : State) → Begins program input state → IsSettled state
settled_beginnings program input state (bytes, names, fresh, main, is_main, e) = subst IsSettled (sym e) (start_settled_here names main)
  where
    start_settled_here : (names : ℕ → ℕ) (main : Definition) → IsSettled (start names program main input)
    start_settled_here names main =
        let argv = length program.statics in
        let statics = named_from names 0 (static_numbers program.statics) [] in
        record {
          frame = opened_settled program (λ i. names (suc argv + i)) main (arguments_for (names argv) main.parameters)
              ((names argv, record (new_block (layout program) argv_kind) { contents = all_zero (layout program) argv_kind }) ∷ statics_memory program names statics);
          callers = tt;
        }
