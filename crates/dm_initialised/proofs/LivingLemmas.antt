-- The objects that declarations name stay alive while they are named.
use Rattle.std.specs.Prelude.{◌≡◌, refl, ◌⊎◌, ℕ, zero, suc, ◌+◌, ◌-◌, ◌≤◌, ◌==◌, Bool, true, false, List, [], ◌∷◌, ◌++◌, map, length, take, drop, Option, Some, None, option_map, pos, if◌then◌else◌}
use Rattle.std.proofs.Common.{arith, ap, sym, ◌∙◌, subst, inl, inr}
use Rattle.dm_token.specs.declared.place.Place.{Place}
use Rattle.dm_int.specs.declared.Kind.TheVariants.{Int}
use Rattle.dm_type.specs.CTypes.{CType}
use Rattle.dm_tree.specs.Trees.{Label, block as block_form, full, if_statement, switch, while_loop, do_loop, for_loop, break, continue, return, declare, Tree, node, listed, parts_of, Declarator, Initialiser, Initialisers, one_expression, in_braces, no_items, more_items, expressions_in}
use Rattle.dm_meaning.specs.declared.cause.Cause.TheVariants.{NoValue}
use Rattle.dm_meaning.specs.Among.{IsAmong}
use Rattle.dm_meaning.specs.Lifetimes.{IsAlive, numbers_of}
use Rattle.dm_meaning.specs.Machines.{Goes, RunsTo, Standing, undefined, exited}
use Rattle.dm_meaning.specs.Values.{Name, numbered, literal_of, elsewhere, Path, At, Value, integer_value, unset, with_part}
use Rattle.dm_meaning.specs.Memory.{Memory, Block, look_up, changed_block, new_block, written, killed, IsFresh}
use Rattle.dm_meaning.specs.Programs.{Program, Definition, Static, layout, declaration_of, definition_of}
use Rattle.dm_meaning.specs.Objects.{Layout, all_zero}
use Rattle.dm_meaning.specs.Operations.{Result, Objects, object_named, Truth, holds, untold, truth_of, whole}
use Rattle.dm_meaning.specs.Running.{Run, done, to_do, locks_in, Hole}
use Rattle.dm_meaning.specs.Expressions.{Move, goes, calls, fails, exits, value_of, moves}
use Rattle.dm_meaning.specs.States.{Loop, Use, drops, chooses, selects, repeats, continues, returns, initialises, Task, begins, declares, initials, evaluates, again, tests, ends, ends_switch, leaves, skips, hands_back, Caller, State}
use Rattle.dm_meaning.specs.Statements.{Turned, onward, refused, evaluation, is_automatic, declared_in, type_declared, named_from, made_from, named_since, Local, with_expressions, item_tasks, items_tasks, unlabelled, entered, memory_entered, start_tasks, as_list, loop_with, returning, begin_for, begin_form, begin_tree, begin_statement, initial_of, begin_declarator, part_tasks, begin_initialiser, selected_by, by_test, begins_one, concluded, tested, continued, unfolded, ended, after_break, after_continue}
use Rattle.dm_meaning.specs.Steps.{given_from, opened, lacks_value, gone_back, handed_back, is_main, gives_nothing, body_place, no_place, closed, turned, moved, scene_of, expression_steps, task_steps, Step}
use Rattle.dm_meaning.specs.Units.{static_numbers, static_value, zeroed_from, initialised, all_initialised, statics_memory, argv_kind, arguments_for, start, Begins, machine_of}
use Rattle.dm_meaning.proofs.AmongLemmas.{among-map_from, among_left, among_right}
use Rattle.dm_meaning.proofs.ExtendLemmas.{look_changed}
use Rattle.dm_meaning.proofs.FormLemmas.{one_tree_has, first_tree_has, option_tree_has, if_tree_has}
use Rattle.dm_meaning.proofs.GrowLemmas.{equal_of}
use Rattle.dm_meaning.proofs.OptionLemmas.{none_is_some, some_is_some}
use Rattle.dm_meaning.proofs.StateLemmas.{from_steps}
use Rattle.dm_meaning.proofs.StoreLemmas.{MoveKeeps, moves_keep}
use Rattle.dm_sound.proofs.PlaceLemmas.{same}
use Rattle.dm_initialised.specs.Living.{callers_then, in_use, AreAlive, AreApart, IsWithin, TasksNest, CallersNest, IsLivingState}
use Rattle.dm_initialised.proofs.ItemLemmas.{tasks_assoc}
use Rattle.dm_initialised.proofs.StateLemmas.{nothing_behind}

-- ---- memory

alive_changed : (m : ℕ) (change : Block → Block) (memory : Memory) (n : ℕ) → ((x : Block) → (change x).alive ≡ x.alive) → IsAlive memory n → IsAlive (changed_block m change memory) n
alive_changed m change memory n h a = record {
  block = if n == m then change a.block else a.block;
  found = look_changed m change memory n ∙ ap (option_map (λ (x : Block). if n == m then change x else x)) a.found;
  alive = by_name (n == m);
}
  where
    by_name : (b : Bool) → (if b then change a.block else a.block).alive ≡ true
    by_name true = h a.block ∙ a.alive
    by_name false = a.alive

alive_written_in : (name : Name) (path : Path) (value : Value) (memory : Memory) (n : ℕ) → IsAlive memory n → IsAlive (written memory (record { name = name; path = path }) value) n
alive_written_in (numbered m) path value memory n a = alive_changed m (λ (block : Block). record block { contents = with_part path value block.contents }) memory n (λ x. refl) a
alive_written_in (literal_of bytes unit) path value memory n a = a
alive_written_in (elsewhere identifier) path value memory n a = a

alive_written : (n : ℕ) (at : At) (value : Value) (memory : Memory) → IsAlive memory n → IsAlive (written memory at value) n
alive_written n at value memory a = alive_written_in at.name at.path value memory n a

alive_added : (m : ℕ) (one : Block) (memory : Memory) → look_up memory m ≡ None → (n : ℕ) → IsAlive memory n → IsAlive ((m, one) ∷ memory) n
alive_added m one memory new n a = record { block = a.block; found = by_name (m == n) refl; alive = a.alive }
  where
    by_name : (b : Bool) → (m == n) ≡ b → (if m == n then Some one else look_up memory n) ≡ Some a.block
    by_name true e = absurd (none_is_some a.block (sym new ∙ ap (look_up memory) (equal_of m n e) ∙ a.found))
    by_name false e = ap (λ b. if b then Some one else look_up memory n) e ∙ a.found

-- a lifetime ends, and those of other objects go on
alive_ended : (m : ℕ) (memory : Memory) (n : ℕ) → (n ≡ m → ⊥) → IsAlive memory n → IsAlive (changed_block m (λ (block : Block). record block { alive = false }) memory) n
alive_ended m memory n apart a = by_name (n == m) refl
  where
    end : Block → Block
    end block = record block { alive = false }

    by_name : (b : Bool) → (n == m) ≡ b → IsAlive (changed_block m end memory) n
    by_name true e = absurd (apart (equal_of n m e))
    by_name false e = record {
      block = a.block;
      found = look_changed m end memory n ∙ ap (option_map (λ (x : Block). if n == m then end x else x)) a.found ∙ ap (λ b. Some (if b then end a.block else a.block)) e;
      alive = a.alive;
    }

alive_killed : (ns : List ℕ) (memory : Memory) (n : ℕ) → (IsAmong n ns → ⊥) → IsAlive memory n → IsAlive (killed ns memory) n
alive_killed [] memory n apart a = a
alive_killed (m ∷ ns) memory n apart a =
    alive_killed ns (changed_block m (λ (block : Block). record block { alive = false }) memory) n (λ b. apart (inr b)) (alive_ended m memory n (λ e. apart (inl e)) a)

all_kept : (memory later : Memory) (ns : List ℕ) → ((n : ℕ) → IsAmong n ns → IsAlive memory n → IsAlive later n) → AreAlive memory ns → AreAlive later ns
all_kept memory later [] h a = tt
all_kept memory later (n ∷ ns) h a = (h n (inl refl) a.0, all_kept memory later ns (λ m b. h m (inr b)) a.1)

alive_there : (memory : Memory) (ns : List ℕ) (n : ℕ) → AreAlive memory ns → IsAmong n ns → IsAlive memory n
alive_there memory [] n a b = absurd b
alive_there memory (m ∷ ns) n a (inl e) = subst (IsAlive memory) (sym e) a.0
alive_there memory (m ∷ ns) n a (inr b) = alive_there memory ns n a.1 b

-- ---- numbers

apart_behind : (xs ys : List ℕ) → AreApart (xs ++ ys) → AreApart ys
apart_behind [] ys h = h
apart_behind (x ∷ xs) ys h = apart_behind xs ys h.1

alive_behind : (memory : Memory) (xs ys : List ℕ) → AreAlive memory (xs ++ ys) → AreAlive memory ys
alive_behind memory [] ys h = h
alive_behind memory (x ∷ xs) ys h = alive_behind memory xs ys h.1

apart_front : (xs ys : List ℕ) → AreApart (xs ++ ys) → (n : ℕ) → IsAmong n xs → IsAmong n ys → ⊥
apart_front [] ys h n a b = a
apart_front (x ∷ xs) ys h n (inl e) b = h.0 (subst (λ m. IsAmong m (xs ++ ys)) e (among_right n xs ys b))
apart_front (x ∷ xs) ys h n (inr a) b = apart_front xs ys h.1 n a b

-- where objects in front die, those behind stay
front_dies : (memory : Memory) (xs ys : List ℕ) → AreAlive memory (xs ++ ys) → AreApart (xs ++ ys) → AreAlive (killed xs memory) ys
front_dies memory xs ys a h = all_kept memory (killed xs memory) ys (λ n b. alive_killed xs memory n (λ c. apart_front xs ys h n c b)) (alive_behind memory xs ys a)

numbers_assoc : (front saved : Objects) (others : List ℕ) → numbers_of (front ++ saved) ++ others ≡ numbers_of front ++ (numbers_of saved ++ others)
numbers_assoc [] saved others = refl
numbers_assoc (entry ∷ front) saved others = ap (λ (ns : List ℕ). entry.1 ∷ ns) (numbers_assoc front saved others)

-- the objects that have been named since are those in front
front_taken : (front saved : Objects) → take (length (front ++ saved) - length saved) (front ++ saved) ≡ front
front_taken front saved = ap (λ n. take n (front ++ saved)) (how_many front saved) ∙ taken front saved
  where
    longer : (a b : Objects) → length (a ++ b) ≡ length a + length b
    longer [] b = omega arith
    longer (x ∷ a) b = let h = longer a b in omega (arith, h)

    how_many : (a b : Objects) → length (a ++ b) - length b ≡ length a
    how_many a b = let h = longer a b in omega (arith, h)

    taken : (a b : Objects) → take (length a) (a ++ b) ≡ a
    taken [] b = refl
    taken (x ∷ a) b = ap (λ (c : Objects). x ∷ c) (taken a b)

-- ---- nests

objects_assoc : (a b c : Objects) → (a ++ b) ++ c ≡ a ++ (b ++ c)
objects_assoc [] b c = refl
objects_assoc (x ∷ a) b c = ap (λ (d : Objects). x ∷ d) (objects_assoc a b c)

within_same : (objects : Objects) → IsWithin objects objects
within_same objects = ([], refl)

within_then : (saved other objects : Objects) → IsWithin saved other → IsWithin other objects → IsWithin saved objects
within_then saved other objects h k = (k.0 ++ h.0, k.1 ∙ ap (λ (o : Objects). k.0 ++ o) h.1 ∙ sym (objects_assoc k.0 h.0 saved))

nest_more : (tasks : List Task) (saved objects : Objects) → IsWithin saved objects → TasksNest saved tasks → TasksNest objects tasks
nest_more [] saved objects w h = tt
nest_more (begins tree ∷ rest) saved objects w h = nest_more rest saved objects w h
nest_more (declares declarator trees ∷ rest) saved objects w h = nest_more rest saved objects w h
nest_more (initials at kind initialiser trees ∷ rest) saved objects w h = nest_more rest saved objects w h
nest_more (evaluates place run use_of ∷ rest) saved objects w h = nest_more rest saved objects w h
nest_more (again other loop ∷ rest) saved objects w h = (within_then other saved objects h.0 w, h.1)
nest_more (tests other loop ∷ rest) saved objects w h = (within_then other saved objects h.0 w, h.1)
nest_more (ends other ∷ rest) saved objects w h = (within_then other saved objects h.0 w, h.1)
nest_more (ends_switch other ∷ rest) saved objects w h = (within_then other saved objects h.0 w, h.1)
nest_more (leaves ∷ rest) saved objects w h = nest_more rest saved objects w h
nest_more (skips ∷ rest) saved objects w h = nest_more rest saved objects w h
nest_more (hands_back value ∷ rest) saved objects w h = nest_more rest saved objects w h

locals_nest : (objects : Objects) (locals : List Local) (rest : List Task) → TasksNest objects rest → TasksNest objects (map (λ (local : Local). declares local.declarator local.expressions) locals ++ rest)
locals_nest objects [] rest h = h
locals_nest objects (local ∷ locals) rest h = locals_nest objects locals rest h

item_nests : (objects : Objects) (item : Tree) (rest : List Task) → TasksNest objects rest → TasksNest objects (item_tasks item ++ rest)
item_nests objects (node (declare lengths declarators) kind spans parts) rest h = locals_nest objects (with_expressions declarators (drop lengths (listed parts))) rest h
item_nests objects (node label kind spans parts) rest h = h

items_nest : (objects : Objects) (items : List Tree) (rest : List Task) → TasksNest objects rest → TasksNest objects (items_tasks items ++ rest)
items_nest objects [] rest h = h
items_nest objects (item ∷ items) rest h =
    subst (TasksNest objects) (sym (tasks_assoc (item_tasks item) (items_tasks items) rest)) (item_nests objects item (items_tasks items ++ rest) (items_nest objects items rest h))

start_nests : (objects : Objects) (start : Option Tree) (rest : List Task) → TasksNest objects rest → TasksNest objects (start_tasks start ++ rest)
start_nests objects None rest h = h
start_nests objects (Some (node (declare lengths declarators) kind spans parts)) rest h = item_nests objects (node (declare lengths declarators) kind spans parts) rest h
start_nests objects (Some (node label kind spans parts)) rest h = h

parts_nest : (objects : Objects) (laid : Layout) (at : At) (kind : CType) (n : ℕ) (items : Initialisers) (trees : List Tree) (rest : List Task) → TasksNest objects rest → TasksNest objects (part_tasks laid at kind n items trees ++ rest)
parts_nest objects laid at kind n no_items trees rest h = h
parts_nest objects laid at kind n (more_items item items) trees rest h = parts_nest objects laid at kind (suc n) items (drop (expressions_in item) trees) rest h

unfolded_nest : (objects : Objects) (tasks : List Task) → TasksNest objects tasks → TasksNest objects (unfolded tasks)
unfolded_nest objects (tests saved loop ∷ rest) h = tested_nest loop.condition
  where
    tested_nest : (o : Option Tree) → TasksNest objects (tested saved loop rest o)
    tested_nest None = h
    tested_nest (Some condition) = nest_more rest saved objects h.0 h.1
unfolded_nest objects (again saved loop ∷ rest) h = continued_nest loop.after
  where
    tested_nest : (o : Option Tree) → TasksNest objects (tested saved loop rest o)
    tested_nest None = h
    tested_nest (Some condition) = nest_more rest saved objects h.0 h.1

    continued_nest : (o : Option Tree) → TasksNest objects (continued saved loop rest o)
    continued_nest None = tested_nest loop.condition
    continued_nest (Some after) = nest_more rest saved objects h.0 h.1
unfolded_nest objects [] h = h
unfolded_nest objects (begins tree ∷ rest) h = h
unfolded_nest objects (declares declarator trees ∷ rest) h = h
unfolded_nest objects (initials at kind initialiser trees ∷ rest) h = h
unfolded_nest objects (evaluates place run use_of ∷ rest) h = h
unfolded_nest objects (ends saved ∷ rest) h = h
unfolded_nest objects (ends_switch saved ∷ rest) h = h
unfolded_nest objects (leaves ∷ rest) h = h
unfolded_nest objects (skips ∷ rest) h = h
unfolded_nest objects (hands_back value ∷ rest) h = h

-- ---- new objects

module _ (program : Program) (names : ℕ → ℕ) (distinct : (i j : ℕ) → names i ≡ names j → i ≡ j) where
  abbrev AreNewFrom : ℕ → Memory → Type 0
  AreNewFrom i memory = (j : ℕ) → i ≤ j → look_up memory (names j) ≡ None

  new_added : (i : ℕ) (one : Block) (memory : Memory) → AreNewFrom i memory → AreNewFrom (suc i) ((names i, one) ∷ memory)
  new_added i one memory new j le = by_name (names i == names j) refl
    where
      apart : i ≡ j → ⊥
      apart e = omega (arith, e, le)

      by_name : (b : Bool) → (names i == names j) ≡ b → (if names i == names j then Some one else look_up memory (names j)) ≡ None
      by_name true f = absurd (apart (distinct i j (equal_of (names i) (names j) f)))
      by_name false f = ap (λ b. if b then Some one else look_up memory (names j)) f ∙ new j (omega (arith, le))

  -- objects are alive, none is another, and later names are new
  pub record Lives (n : ℕ) (memory : Memory) (ns : List ℕ) : Type 0 where
    pub alive : AreAlive memory ns
    pub apart : AreApart ns
    pub new : AreNewFrom n memory

  itself : (k : ℕ) → k ≤ k
  itself k = omega arith

  one_lives : (i : ℕ) (one : Block) (memory : Memory) (ns : List ℕ) → one.alive ≡ true → Lives i memory ns → Lives (suc i) ((names i, one) ∷ memory) (names i ∷ ns)
  one_lives i one memory ns e h = record {
    alive = (
      record { block = one; found = ap (λ b. if b then Some one else look_up memory (names i)) (same (names i)); alive = e },
      all_kept memory ((names i, one) ∷ memory) ns (λ n a b. alive_added (names i) one memory (h.new i (itself i)) n b) h.alive,
    );
    apart = ((λ a. let there = alive_there memory ns (names i) h.alive a in none_is_some there.block (sym (h.new i (itself i)) ∙ there.found)), h.apart);
    new = new_added i one memory h.new;
  }

  made_live : (i : ℕ) (ds : List ℕ) (objects : Objects) (memory : Memory) (others : List ℕ) (n : ℕ) → n ≡ i + length ds → Lives i memory (numbers_of objects ++ others) → Lives n (made_from program names i ds memory) (numbers_of (named_from names i ds objects) ++ others)
  made_live i [] objects memory others n e h = record { alive = h.alive; apart = h.apart; new = λ j le. h.new j (omega (arith, e, le)) }
  made_live i (d ∷ ds) objects memory others n e h =
      let one = new_block (layout program) (type_declared program d) in
      made_live (suc i) ds ((d, names i) ∷ objects) ((names i, one) ∷ memory) others n (omega (arith, e)) (one_lives i one memory (numbers_of objects ++ others) refl h)

  given_live : (i : ℕ) (ds : List ℕ) (values : List Value) (objects : Objects) (memory : Memory) (others : List ℕ) (n : ℕ) → n ≡ i + length ds → Lives i memory (numbers_of objects ++ others)
      → Lives n (given_from program names i ds values memory) (numbers_of (named_from names i ds objects) ++ others)
  given_live i [] [] objects memory others n e h = record { alive = h.alive; apart = h.apart; new = λ j le. h.new j (omega (arith, e, le)) }
  given_live i [] (value ∷ values) objects memory others n e h = record { alive = h.alive; apart = h.apart; new = λ j le. h.new j (omega (arith, e, le)) }
  given_live i (d ∷ ds) [] objects memory others n e h =
      let one = new_block (layout program) (type_declared program d) in
      given_live (suc i) ds [] ((d, names i) ∷ objects) ((names i, one) ∷ memory) others n (omega (arith, e)) (one_lives i one memory (numbers_of objects ++ others) refl h)
  given_live i (d ∷ ds) (value ∷ values) objects memory others n e h =
      let one = record (new_block (layout program) (type_declared program d)) { contents = value } in
      given_live (suc i) ds values ((d, names i) ∷ objects) ((names i, one) ∷ memory) others n (omega (arith, e)) (one_lives i one memory (numbers_of objects ++ others) refl h)

  -- those that were named stay behind those that are named
  named_within : (i : ℕ) (ds : List ℕ) (objects : Objects) → IsWithin objects (named_from names i ds objects)
  named_within i [] objects = within_same objects
  named_within i (d ∷ ds) objects = within_then objects ((d, names i) ∷ objects) (named_from names (suc i) ds ((d, names i) ∷ objects)) ((d, names i) ∷ [], refl) (named_within (suc i) ds ((d, names i) ∷ objects))

-- ---- what a step leaves in a frame

module _ (program : Program) (objects : Objects) (rest : List Task) (memory : Memory) (others : List ℕ) (alive : AreAlive memory (numbers_of objects ++ others)) (apart : AreApart (numbers_of objects ++ others)) (nests : TasksNest objects rest) where
  abbrev TurnedLives : Turned → Type 0
  TurnedLives (onward now tasks after) = AreAlive after (numbers_of now ++ others) × AreApart (numbers_of now ++ others) × TasksNest now tasks
  TurnedLives (refused cause place) = Unit {0}

  stays : (tasks : List Task) → TasksNest objects tasks → TurnedLives (onward objects tasks memory)
  stays tasks h = (alive, apart, h)

  stored : (at : At) (value : Value) (tasks : List Task) → TasksNest objects tasks → TurnedLives (onward objects tasks (written memory at value))
  stored at value tasks h = (all_kept memory (written memory at value) (numbers_of objects ++ others) (λ n a b. alive_written n at value memory b) alive, apart, h)

  ending : TasksNest objects (ends objects ∷ rest)
  ending = (within_same objects, nests)

  ended_lives : (saved : Objects) (tasks : List Task) → IsWithin saved objects → TasksNest saved tasks → TurnedLives (ended saved objects tasks memory)
  ended_lives saved tasks w h =
      let front = w.0 in
      let split = ap (λ (o : Objects). numbers_of o ++ others) w.1 ∙ numbers_assoc front saved others in
      let dying : named_since saved objects ≡ numbers_of front = ap (λ (o : Objects). map (λ entry. entry.1) (take (length o - length saved) o)) w.1 ∙ ap (λ (o : Objects). map (λ entry. entry.1) o) (front_taken front saved) in
      let far = subst AreApart split apart in (
        subst (λ (ns : List ℕ). AreAlive (killed ns memory) (numbers_of saved ++ others)) (sym dying) (front_dies memory (numbers_of front) (numbers_of saved ++ others) (subst (AreAlive memory) split alive) far),
        apart_behind (numbers_of front) (numbers_of saved ++ others) far,
        h,
      )

  break_lives : (tasks : List Task) (now : Objects) → IsWithin now objects → TasksNest now tasks → TurnedLives (after_break objects memory tasks)
  break_lives [] now w h = stays [] tt
  break_lives (again saved loop ∷ tasks) now w h = ended_lives saved tasks (within_then saved now objects h.0 w) h.1
  break_lives (ends_switch saved ∷ tasks) now w h = ended_lives saved (ends_switch saved ∷ tasks) (within_then saved now objects h.0 w) (within_same saved, h.1)
  break_lives (begins tree ∷ tasks) now w h = break_lives tasks now w h
  break_lives (declares declarator trees ∷ tasks) now w h = break_lives tasks now w h
  break_lives (initials at kind initialiser trees ∷ tasks) now w h = break_lives tasks now w h
  break_lives (evaluates place run use_of ∷ tasks) now w h = break_lives tasks now w h
  break_lives (tests saved loop ∷ tasks) now w h = break_lives tasks saved (within_then saved now objects h.0 w) h.1
  break_lives (ends saved ∷ tasks) now w h = break_lives tasks saved (within_then saved now objects h.0 w) h.1
  break_lives (leaves ∷ tasks) now w h = break_lives tasks now w h
  break_lives (skips ∷ tasks) now w h = break_lives tasks now w h
  break_lives (hands_back value ∷ tasks) now w h = break_lives tasks now w h

  continue_lives : (tasks : List Task) (now : Objects) → IsWithin now objects → TasksNest now tasks → TurnedLives (after_continue objects memory tasks)
  continue_lives [] now w h = stays [] tt
  continue_lives (again saved loop ∷ tasks) now w h = ended_lives saved (again saved loop ∷ tasks) (within_then saved now objects h.0 w) (within_same saved, h.1)
  continue_lives (ends_switch saved ∷ tasks) now w h = continue_lives tasks saved (within_then saved now objects h.0 w) h.1
  continue_lives (begins tree ∷ tasks) now w h = continue_lives tasks now w h
  continue_lives (declares declarator trees ∷ tasks) now w h = continue_lives tasks now w h
  continue_lives (initials at kind initialiser trees ∷ tasks) now w h = continue_lives tasks now w h
  continue_lives (evaluates place run use_of ∷ tasks) now w h = continue_lives tasks now w h
  continue_lives (tests saved loop ∷ tasks) now w h = continue_lives tasks saved (within_then saved now objects h.0 w) h.1
  continue_lives (ends saved ∷ tasks) now w h = continue_lives tasks saved (within_then saved now objects h.0 w) h.1
  continue_lives (leaves ∷ tasks) now w h = continue_lives tasks now w h
  continue_lives (skips ∷ tasks) now w h = continue_lives tasks now w h
  continue_lives (hands_back value ∷ tasks) now w h = continue_lives tasks now w h

  initial_nests : (kind : CType) (o : Option ℕ) (i : Option Initialiser) (trees : List Tree) → TasksNest objects (initial_of kind o i trees ++ rest)
  initial_nests kind None i trees = nests
  initial_nests kind (Some n) None trees = nests
  initial_nests kind (Some n) (Some initialiser) trees = nests

  declarator_lives : (declarator : Declarator) (trees : List Tree) → TurnedLives (begin_declarator program objects rest memory declarator trees)
  declarator_lives declarator trees = by_duration (is_automatic program declarator)
    where
      tasks : List Task
      tasks = initial_of (type_declared program declarator.declared) (object_named objects declarator.declared) declarator.initialiser trees

      by_duration : (b : Bool) → TurnedLives (onward objects ((if b then tasks else []) ++ rest) memory)
      by_duration true = stays (tasks ++ rest) (initial_nests (type_declared program declarator.declared) (object_named objects declarator.declared) declarator.initialiser trees)
      by_duration false = stays rest nests

  initialiser_lives : (at : At) (kind : CType) (initialiser : Initialiser) (trees : List Tree) → TurnedLives (begin_initialiser program objects rest memory at kind initialiser trees)
  initialiser_lives at kind one_expression trees = one_tree_has TurnedLives trees _ _ (λ x. stays (evaluation x (initialises at kind) ∷ rest) nests) (stays rest nests)
  initialiser_lives at kind (in_braces items) trees = stored at _ (part_tasks (layout program) at kind 0 items trees ++ rest) (parts_nest objects (layout program) at kind 0 items trees rest nests)

  tested_lives : (place : Place) (truth : Truth) (following : Bool → Turned) → ((b : Bool) → TurnedLives (following b)) → TurnedLives (by_test place truth following)
  tested_lives place (holds b) following h = h b
  tested_lives place (untold cause) following h = tt

  concluded_lives : (place : Place) (use_of : Use) (given : Result) → TurnedLives (concluded program objects rest memory place use_of given)
  concluded_lives place drops given = stays rest nests
  concluded_lives place (chooses first second) given = tested_lives place (truth_of memory (value_of given)) _ (λ b. stays (begins_one (if b then Some first else second) ++ rest) (chosen b second))
    where
      one_nests : (o : Option Tree) → TasksNest objects (begins_one o ++ rest)
      one_nests None = nests
      one_nests (Some tree) = nests

      chosen : (b : Bool) (o : Option Tree) → TasksNest objects (begins_one (if b then Some first else o) ++ rest)
      chosen true o = nests
      chosen false o = one_nests o
  concluded_lives place (selects items) given = stays (items_tasks (selected_by program (value_of given) items) ++ rest) (items_nest objects (selected_by program (value_of given) items) rest nests)
  concluded_lives place (repeats loop) given = tested_lives place (truth_of memory (value_of given)) _ (λ b. stays (if b then begins loop.body ∷ again objects loop ∷ rest else rest) (repeated b))
    where
      repeated : (b : Bool) → TasksNest objects (if b then begins loop.body ∷ again objects loop ∷ rest else rest)
      repeated true = (within_same objects, nests)
      repeated false = nests
  concluded_lives place (continues loop) given = stays (tests objects loop ∷ rest) (within_same objects, nests)
  concluded_lives place returns given = stays (hands_back (value_of given) ∷ []) tt
  concluded_lives place (initialises at kind) given = stored at _ rest nests

  -- ---- statements

  module _ (names : ℕ → ℕ) (distinct : (i j : ℕ) → names i ≡ names j → i ≡ j) (new : (j : ℕ) → look_up memory (names j) ≡ None) where
    begun : Lives program names distinct 0 memory (numbers_of objects ++ others)
    begun = record { alive = alive; apart = apart; new = λ j le. new j }

    entered_lives : (items : List Tree) (tasks : List Task) → TasksNest (entered program names items objects) tasks → TurnedLives (onward (entered program names items objects) tasks (memory_entered program names items memory))
    entered_lives items tasks h =
        let ds = declared_in program items in
        let lives = made_live program names distinct 0 ds objects memory others (length ds) (from_none (length ds)) begun in
        (lives.alive, lives.apart, h)
      where
        from_none : (many : ℕ) → many ≡ 0 + many
        from_none many = omega arith

    ending_inside : (items : List Tree) → TasksNest (entered program names items objects) (ends objects ∷ rest)
    ending_inside items = (named_within program names distinct 0 (declared_in program items) objects, nests)

    for_lives : (start : Option Tree) (loop : Loop) → TurnedLives (begin_for program names objects rest memory start loop)
    for_lives start loop =
        let inside = entered program names (as_list start) objects in
        entered_lives (as_list start) (start_tasks start ++ tests inside loop ∷ ends objects ∷ rest)
        (start_nests inside start (tests inside loop ∷ ends objects ∷ rest) (within_same inside, ending_inside (as_list start)))

    return_lives : (o : Option Tree) → TurnedLives (returning objects memory o)
    return_lives None = stays (hands_back unset ∷ []) tt
    return_lives (Some tree) = stays (evaluation tree returns ∷ []) tt

    form_lives : (label : Label) (trees : List Tree) → TurnedLives (begin_form program names objects rest memory label trees)
    form_lives block_form items = entered_lives items (items_tasks items ++ ends objects ∷ rest) (items_nest (entered program names items objects) items (ends objects ∷ rest) (ending_inside items))
    form_lives full trees = one_tree_has TurnedLives trees _ _ (λ x. stays (evaluation x drops ∷ ends objects ∷ rest) ending) (stays (ends objects ∷ rest) ending)
    form_lives if_statement trees =
        first_tree_has TurnedLives trees _ _ (λ x xs. first_tree_has TurnedLives xs _ _ (λ y ys. option_tree_has TurnedLives ys _ _
        (λ z. stays (evaluation x (chooses y z) ∷ ends objects ∷ rest) ending) (stays (ends objects ∷ rest) ending)) (stays (ends objects ∷ rest) ending)) (stays (ends objects ∷ rest) ending)
    form_lives switch trees = first_tree_has TurnedLives trees _ _ (λ x xs. stays (evaluation x (selects xs) ∷ ends_switch objects ∷ rest) ending) (stays (ends objects ∷ rest) ending)
    form_lives while_loop trees =
        first_tree_has TurnedLives trees _ _ (λ x xs. one_tree_has TurnedLives xs _ _ (λ y. stays (tests objects (loop_with (Some x) None y) ∷ ends objects ∷ rest) (within_same objects, ending)) (stays (ends objects ∷ rest) ending))
        (stays (ends objects ∷ rest) ending)
    form_lives do_loop trees =
        first_tree_has TurnedLives trees _ _ (λ x xs. one_tree_has TurnedLives xs _ _ (λ y. stays (begins x ∷ again objects (loop_with (Some y) None x) ∷ ends objects ∷ rest) (within_same objects, ending)) (stays (ends objects ∷ rest) ending))
        (stays (ends objects ∷ rest) ending)
    form_lives (for_loop first second third) trees =
        if_tree_has TurnedLives first trees _ _ (λ x xs. if_tree_has TurnedLives second xs _ _ (λ y ys. if_tree_has TurnedLives third ys _ _ (λ z zs. one_tree_has TurnedLives zs _ _
        (λ body. for_lives x (loop_with y z body)) (stays (ends objects ∷ rest) ending)) (stays (ends objects ∷ rest) ending)) (stays (ends objects ∷ rest) ending)) (stays (ends objects ∷ rest) ending)
    form_lives break trees = stays (leaves ∷ rest) nests
    form_lives continue trees = stays (skips ∷ rest) nests
    form_lives return trees = option_tree_has TurnedLives trees _ _ return_lives (stays (ends objects ∷ rest) ending)
    form_lives label trees = stays (ends objects ∷ rest) ending

    tree_lives : (tree : Tree) → TurnedLives (begin_tree program names objects rest memory tree)
    tree_lives (node label kind spans parts) = form_lives label (listed parts)

-- ---- states

module _ (program : Program) (state : State) (s : IsLivingState state) where
  abbrev memory : Memory
  memory = state.world.memory

  abbrev objects : Objects
  objects = state.frame.objects

  abbrev others : List ℕ
  others = callers_then state.callers (numbers_of state.statics)

  ended_state : (standing : Standing) → IsLivingState (record state { standing = standing })
  ended_state standing = record { alive = s.alive; apart = s.apart; nests = s.nests; callers = s.callers }

  abbrev Turns : (rest : List Task) → TasksNest objects rest → Turned → Type 0
  Turns rest nests turn = TurnedLives program objects rest memory others s.alive s.apart nests turn

  turned_lives : (rest : List Task) (nests : TasksNest objects rest) (turn : Turned) → Turns rest nests turn → IsLivingState (turned state turn)
  turned_lives rest nests (onward now tasks after) h = record { alive = h.0; apart = h.1; nests = h.2; callers = s.callers }
  turned_lives rest nests (refused cause place) h = ended_state (undefined cause place)

  one_lives_on : (rest : List Task) (nests : TasksNest objects rest) (turn : Turned) → Turns rest nests turn → (other : State) → IsAmong other (turned state turn ∷ []) → IsLivingState other
  one_lives_on rest nests turn h other (inl e) = subst IsLivingState (sym e) (turned_lives rest nests turn h)
  one_lives_on rest nests turn h other (inr e) = absurd e

  handing_lives : (value : Value) → IsLivingState (record state { frame = record state.frame { tasks = hands_back value ∷ [] } })
  handing_lives value = record { alive = s.alive; apart = s.apart; nests = tt; callers = s.callers }

  closed_lives : IsLivingState (closed program state)
  closed_lives = by_main (is_main (declaration_of program state.frame.function))
    where
      otherwise : State
      otherwise = record state { standing = undefined NoValue (body_place (definition_of program state.frame.function) no_place) }

      by_nothing : (b : Bool) → IsLivingState (if b then record state { frame = record state.frame { tasks = hands_back unset ∷ [] } } else otherwise)
      by_nothing true = handing_lives unset
      by_nothing false = ended_state (undefined NoValue (body_place (definition_of program state.frame.function) no_place))

      by_main : (b : Bool) → IsLivingState (if b then record state { frame = record state.frame { tasks = hands_back (integer_value Int (pos 0)) ∷ [] } }
          else (if gives_nothing (type_declared program state.frame.function) then record state { frame = record state.frame { tasks = hands_back unset ∷ [] } } else otherwise))
      by_main true = handing_lives (integer_value Int (pos 0))
      by_main false = by_nothing (gives_nothing (type_declared program state.frame.function))

  back_lives : (value : Value) (callers : List Caller) → state.callers ≡ callers → IsLivingState (handed_back state value callers)
  back_lives value [] e = ended_state (exited _)
  back_lives value (caller ∷ callers) e = by_lack (lacks_value caller.kind value)
    where
      behind : List ℕ
      behind = callers_then (caller ∷ callers) (numbers_of state.statics)

      there : AreAlive memory (numbers_of objects ++ behind)
      there = subst (λ (cs : List Caller). AreAlive memory (numbers_of objects ++ callers_then cs (numbers_of state.statics))) e s.alive

      far : AreApart (numbers_of objects ++ behind)
      far = subst (λ (cs : List Caller). AreApart (numbers_of objects ++ callers_then cs (numbers_of state.statics))) e s.apart

      waiting : CallersNest (caller ∷ callers)
      waiting = subst CallersNest e s.callers

      by_lack : (b : Bool) → IsLivingState (if b then record state { standing = undefined NoValue caller.place } else gone_back state value caller callers)
      by_lack true = ended_state (undefined NoValue caller.place)
      by_lack false = record { alive = front_dies memory (numbers_of objects) behind there far; apart = apart_behind (numbers_of objects) behind far; nests = waiting.0; callers = waiting.1 }

  -- ---- calls and expressions

  module _ (names : ℕ → ℕ) (fresh : IsFresh names memory) where
    from_none : (many : ℕ) → many ≡ 0 + many
    from_none many = omega arith

    opened_lives : (rest : List Task) → TasksNest objects rest → (place : Place) (use_of : Use) (kind : CType) (hole : Hole) (arguments : List Value) (o : Option Definition) → IsLivingState (opened program names state rest place use_of kind hole arguments o)
    opened_lives rest nests place use_of kind hole arguments None = ended_state (undefined _ place)
    opened_lives rest nests place use_of kind hole arguments (Some definition) =
        let count = length definition.parameters in
        let items = declared_in program (parts_of definition.body) in
        let named = named_from names 0 definition.parameters [] in
        let first = given_from program names 0 definition.parameters arguments memory in
        let given = given_live program names fresh.0 0 definition.parameters arguments [] memory (in_use state) count (from_none count) (record { alive = s.alive; apart = s.apart; new = λ j le. fresh.1 j }) in
        let made = made_live program names fresh.0 count items named first (in_use state) (count + length items) refl given in
        record {
          alive = made.alive;
          apart = made.apart;
          nests = subst (TasksNest (named_from names count items named)) (nothing_behind (items_tasks (parts_of definition.body))) (items_nest (named_from names count items named) (parts_of definition.body) [] tt);
          callers = (nests, s.callers);
        }

    moved_lives : (rest : List Task) → TasksNest objects rest → (place : Place) (use_of : Use) (m : Move Run Hole)
        → ((n : ℕ) (a : IsAlive memory n) → MoveKeeps (λ (later : Memory). IsAlive later n) (alive_written n) (scene_of program state) state.world [] a m) → IsLivingState (moved program names state rest place use_of m)
    moved_lives rest nests place use_of (goes world run) h = record { alive = all_kept memory world.memory (in_use state) (λ n a b. h n b) s.alive; apart = s.apart; nests = nests; callers = s.callers }
    moved_lives rest nests place use_of (calls f arguments kind hole) h = opened_lives rest nests place use_of kind hole arguments (definition_of program f)
    moved_lives rest nests place use_of (fails cause at) h = ended_state (undefined cause at)
    moved_lives rest nests place use_of (exits status) h = ended_state (exited status)

    expression_lives : (rest : List Task) → TasksNest objects rest → (place : Place) (use_of : Use) (run : Run) (other : State) → IsAmong other (expression_steps program names state rest place use_of run) → IsLivingState other
    expression_lives rest nests place use_of (done kind result locks) other e =
        one_lives_on rest nests (concluded program objects rest memory place use_of result) (concluded_lives program objects rest memory others s.alive s.apart nests place use_of result) other e
    expression_lives rest nests place use_of (to_do doing kind at members) other e =
        let run = to_do doing kind at members in
        let from = among-map_from (moved program names state rest place use_of) other (moves (scene_of program state) state.world (locks_in run) run) e in
        subst IsLivingState (sym from.2)
        (moved_lives rest nests place use_of from.0 (λ n a. moves_keep (λ (later : Memory). IsAlive later n) (alive_written n) (scene_of program state) state.world (locks_in run) a run from.0 from.1))

    -- ---- all steps

    task_lives : (tasks : List Task) → TasksNest objects tasks → (other : State) → IsAmong other (task_steps program names state tasks) → IsLivingState other
    task_lives [] nests other (inl e) = subst IsLivingState (sym e) closed_lives
    task_lives [] nests other (inr e) = absurd e
    task_lives (begins tree ∷ rest) nests other e =
        one_lives_on rest nests (begin_statement program names objects rest memory tree)
        (tree_lives program objects rest memory others s.alive s.apart nests names fresh.0 (λ j. fresh.1 j) (unlabelled tree)) other e
    task_lives (declares declarator trees ∷ rest) nests other e =
        one_lives_on rest nests (begin_declarator program objects rest memory declarator trees) (declarator_lives program objects rest memory others s.alive s.apart nests declarator trees) other e
    task_lives (initials at kind initialiser trees ∷ rest) nests other e =
        one_lives_on rest nests (begin_initialiser program objects rest memory at kind initialiser trees)
        (initialiser_lives program objects rest memory others s.alive s.apart nests at kind initialiser trees) other e
    task_lives (evaluates place run use_of ∷ rest) nests other e = expression_lives rest nests place use_of run other e
    task_lives (again saved loop ∷ rest) nests other e = absurd e
    task_lives (tests saved loop ∷ rest) nests other e = absurd e
    task_lives (ends saved ∷ rest) nests other e =
        one_lives_on [] tt (ended saved objects rest memory) (ended_lives program objects [] memory others s.alive s.apart tt saved rest nests.0 nests.1) other e
    task_lives (ends_switch saved ∷ rest) nests other e =
        one_lives_on [] tt (ended saved objects rest memory) (ended_lives program objects [] memory others s.alive s.apart tt saved rest nests.0 nests.1) other e
    task_lives (leaves ∷ rest) nests other e =
        one_lives_on [] tt (after_break objects memory rest) (break_lives program objects [] memory others s.alive s.apart tt rest objects (within_same objects) nests) other e
    task_lives (skips ∷ rest) nests other e =
        one_lives_on [] tt (after_continue objects memory rest) (continue_lives program objects [] memory others s.alive s.apart tt rest objects (within_same objects) nests) other e
    task_lives (hands_back value ∷ rest) nests other (inl e) = subst IsLivingState (sym e) (back_lives value state.callers refl)
    task_lives (hands_back value ∷ rest) nests other (inr e) = absurd e

pub step_lives : (program : Program) (state other : State) → IsLivingState state → Step program state other → IsLivingState other
step_lives program state other s step =
    task_lives program state s step.0 step.1 (unfolded state.frame.tasks) (unfolded_nest state.frame.objects state.frame.tasks s.nests) other (from_steps state.standing _ other step.2).1

goes_lives : (program : Program) (n : ℕ) (state other : State) → IsLivingState state → Goes (machine_of program) n state other → IsLivingState other
unfolding Goes
goes_lives program zero state other s g = subst IsLivingState g s
goes_lives program (suc n) state other s g = goes_lives program n g.0 other (step_lives program state g.0 s g.1) g.2

-- ---- beginnings

none_written_in : (name : Name) (path : Path) (value : Value) (before : Memory) (k : ℕ) → look_up before k ≡ None → look_up (written before (record { name = name; path = path }) value) k ≡ None
none_written_in (numbered m) path value before k e =
    let change : Block → Block = λ block. record block { contents = with_part path value block.contents } in
    look_changed m change before k ∙ ap (option_map (λ (x : Block). if k == m then change x else x)) e
none_written_in (literal_of bytes unit) path value before k e = e
none_written_in (elsewhere identifier) path value before k e = e

module _ (program : Program) (names : ℕ → ℕ) (distinct : (i j : ℕ) → names i ≡ names j → i ≡ j) where
  zeroed_live : (i : ℕ) (ds : List ℕ) (objects : Objects) (memory : Memory) (n : ℕ) → n ≡ i + length ds → Lives program names distinct i memory (numbers_of objects)
      → Lives program names distinct n (zeroed_from program names i ds memory) (numbers_of (named_from names i ds objects))
  zeroed_live i [] objects memory n e h = record { alive = h.alive; apart = h.apart; new = λ j le. h.new j (omega (arith, e, le)) }
  zeroed_live i (d ∷ ds) objects memory n e h =
      let kind = type_declared program d in
      let one = record (new_block (layout program) kind) { contents = all_zero (layout program) kind } in
      zeroed_live (suc i) ds ((d, names i) ∷ objects) ((names i, one) ∷ memory) n (omega (arith, e)) (one_lives program names distinct i one memory (numbers_of objects) refl h)

  written_live : (n : ℕ) (ns : List ℕ) (at : At) (value : Value) (memory : Memory) → Lives program names distinct n memory ns → Lives program names distinct n (written memory at value) ns
  written_live n ns at value memory h = record {
    alive = all_kept memory (written memory at value) ns (λ m a b. alive_written m at value memory b) h.alive;
    apart = h.apart;
    new = λ j le. none_written_in at.name at.path value memory (names j) (h.new j le);
  }

  initialised_live : (n : ℕ) (ns : List ℕ) (named : Objects) (known : Memory) (statics : List Static) (before : Memory) → Lives program names distinct n before ns
      → Lives program names distinct n (all_initialised program named known statics before) ns
  initialised_live n ns named known [] before h = h
  initialised_live n ns named known (static ∷ statics) before h =
      initialised_live n ns named known statics (initialised program named known static (object_named named static.declared) static.initialiser before) (by_parts (object_named named static.declared) static.initialiser)
    where
      by_parts : (o : Option ℕ) (i : Option Initialiser) → Lives program names distinct n (initialised program named known static o i before) ns
      by_parts None i = h
      by_parts (Some m) None = h
      by_parts (Some m) (Some initialiser) = written_live n ns (whole (numbered m)) (static_value program named known (type_declared program static.declared) initialiser static.expressions) before h

start_lives : (program : Program) (names : ℕ → ℕ) → ((i j : ℕ) → names i ≡ names j → i ≡ j) → (main : Definition) (input : List ℕ) → IsLivingState (start names program main input)
start_lives program names distinct main input =
    let numbers = static_numbers program.statics in
    let count = length program.statics in
    let statics = named_from names 0 numbers [] in
    let zeroed = zeroed_from program names 0 numbers [] in
    let ns = numbers_of statics in
    let first = statics_memory program names statics in
    let ready = initialised_live program names distinct count ns statics zeroed program.statics zeroed
    (zeroed_live program names distinct 0 numbers [] [] count (how_many program.statics) (record { alive = tt; apart = tt; new = λ j le. refl })) in
    let argv = record (new_block (layout program) argv_kind) { contents = all_zero (layout program) argv_kind } in
    let memory = (names count, argv) ∷ first in
    let there = one_lives program names distinct count argv first ns refl ready in
    let others : ℕ → ℕ = λ i. names (suc count + i) in
    let apart : (i j : ℕ) → others i ≡ others j → i ≡ j = λ i j e. further count i j (distinct (suc count + i) (suc count + j) e) in
    let arguments = arguments_for (names count) main.parameters in
    let parameters = length main.parameters in
    let items = declared_in program (parts_of main.body) in
    let named = named_from others 0 main.parameters [] in
    let given_memory = given_from program others 0 main.parameters arguments memory in
    let given = given_live program others apart 0 main.parameters arguments [] memory ns parameters (from_none parameters)
    (record { alive = there.alive.1; apart = there.apart.1; new = λ j le. there.new (suc count + j) (beyond count j) }) in
    let made = made_live program others apart parameters items named given_memory ns (parameters + length items) refl given in
    record {
      alive = made.alive;
      apart = made.apart;
      nests = subst (TasksNest (named_from others parameters items named)) (nothing_behind (items_tasks (parts_of main.body))) (items_nest (named_from others parameters items named) (parts_of main.body) [] tt);
      callers = tt;
    }
  where
    how_many : (ss : List Static) → length ss ≡ 0 + length (static_numbers ss)
    how_many [] = refl
    how_many (x ∷ xs) = let h = how_many xs in omega (arith, h)

    from_none : (many : ℕ) → many ≡ 0 + many
    from_none many = omega arith

    further : (count i j : ℕ) → suc count + i ≡ suc count + j → i ≡ j
    further count i j e = omega (arith, e)

    beyond : (count j : ℕ) → suc count ≤ suc count + j
    beyond count j = omega arith

pub begins_lives : (program : Program) (input : List ℕ) (state : State) → Begins program input state → IsLivingState state
begins_lives program input state b = subst IsLivingState (sym b.5) (start_lives program b.1 b.2.0 b.3 input)

pub run_lives : (program : Program) (input : List ℕ) (n : ℕ) (state : State) → RunsTo (machine_of program) input n state → IsLivingState state
run_lives program input n state run = goes_lives program n run.start state (begins_lives program input run.start run.begins) run.goes

-- ---- names

named_among : (entries : Objects) (d n : ℕ) → object_named entries d ≡ Some n → IsAmong n (numbers_of entries)
named_among [] d n e = absurd (none_is_some n e)
named_among (entry ∷ entries) d n e = by_name (entry.0 == d) refl (λ f. named_among entries d n f)
  where
    by_name : (b : Bool) → (entry.0 == d) ≡ b → (object_named entries d ≡ Some n → IsAmong n (numbers_of entries)) → IsAmong n (entry.1 ∷ numbers_of entries)
    by_name true f h = inl (sym (some_is_some entry.1 n (sym (ap (λ b. if b then Some entry.1 else object_named entries d) f) ∙ e)))
    by_name false f h = inr (h (sym (ap (λ b. if b then Some entry.1 else object_named entries d) f) ∙ e))

-- an object that a declaration names in a state is alive
pub named_alive : (state : State) → IsLivingState state → (d n : ℕ) → object_named (state.statics ++ state.frame.objects) d ≡ Some n → IsAlive state.world.memory n
named_alive state s d n e = by_side (numbers_either state.statics state.frame.objects (named_among (state.statics ++ state.frame.objects) d n e))
  where
    numbers_either : (a b : Objects) → IsAmong n (numbers_of (a ++ b)) → IsAmong n (numbers_of a) ⊎ IsAmong n (numbers_of b)
    numbers_either [] b h = inr h
    numbers_either (x ∷ a) b (inl h) = inl (inl h)
    numbers_either (x ∷ a) b (inr h) = first (numbers_either a b h)
      where
        first : IsAmong n (numbers_of a) ⊎ IsAmong n (numbers_of b) → IsAmong n (numbers_of (x ∷ a)) ⊎ IsAmong n (numbers_of b)
        first (inl k) = inl (inr k)
        first (inr k) = inr k

    behind : (callers : List Caller) (last : List ℕ) → IsAmong n last → IsAmong n (callers_then callers last)
    behind [] last h = h
    behind (caller ∷ callers) last h = among_right n (numbers_of caller.frame.objects) (callers_then callers last) (behind callers last h)

    by_side : IsAmong n (numbers_of state.statics) ⊎ IsAmong n (numbers_of state.frame.objects) → IsAlive state.world.memory n
    by_side (inl h) = alive_there state.world.memory (in_use state) n s.alive (among_right n (numbers_of state.frame.objects) (callers_then state.callers (numbers_of state.statics)) (behind state.callers (numbers_of state.statics) h))
    by_side (inr h) = alive_there state.world.memory (in_use state) n s.alive (among_left n (numbers_of state.frame.objects) (callers_then state.callers (numbers_of state.statics)) h)
