-- Where objects are numbered in the order in which they are made, their numbers were never used: so a run by choices is one of the machine's.
use Rattle.std.specs.Prelude.{◌≡◌, refl, ℕ, zero, suc, ◌+◌, ◌≤◌, ◌==◌, Bool, true, false, List, [], ◌∷◌, map, length, Option, Some, None, option_map, if◌then◌else◌}
use Rattle.std.proofs.Common.{arith, ap, sym, ◌∙◌, subst, inl, inr}
use Rattle.dm_token.specs.declared.place.Place.{Place}
use Rattle.dm_type.specs.CTypes.{CType}
use Rattle.dm_tree.specs.Trees.{Label, block as block_form, for_loop, full, if_statement, switch, while_loop, do_loop, break, continue, return, Tree, node, listed, parts_of, Initialiser, one_expression, in_braces}
use Rattle.dm_meaning.specs.declared.cause.Cause.{Cause}
use Rattle.dm_meaning.specs.declared.cause.Cause.TheVariants.{NoValue}
use Rattle.dm_meaning.specs.Among.{IsAmong}
use Rattle.dm_meaning.specs.Machines.{Standing, going, exited, undefined, Goes, RunsWithin}
use Rattle.dm_meaning.specs.Values.{Name, numbered, literal_of, elsewhere, Path, At, Value, unset, with_part}
use Rattle.dm_meaning.specs.Memory.{Memory, Block, look_up, new_block, changed_block, written, killed, IsFresh}
use Rattle.dm_meaning.specs.Objects.{all_zero}
use Rattle.dm_meaning.specs.Primitives.{Prim}
use Rattle.dm_meaning.specs.Programs.{Program, Definition, Static, layout, declaration_of, definition_of}
use Rattle.dm_meaning.specs.Operations.{Result, Objects, object_named, whole, Truth, holds, untold, truth_of}
use Rattle.dm_meaning.specs.Running.{Run, done, to_do, locks_in, Hole}
use Rattle.dm_meaning.specs.Expressions.{Move, goes, calls, fails, exits, value_of, moves}
use Rattle.dm_meaning.specs.States.{Use, drops, chooses, selects, repeats, continues, returns, initialises, Task, begins, declares, initials, evaluates, again, tests, ends, ends_switch, leaves, skips, hands_back, Caller, State}
use Rattle.dm_meaning.specs.Statements.{Turned, onward, refused, type_declared, named_from, made_from, named_since, declared_in, as_list, returning, begin_form, begin_tree, unlabelled, begin_declarator, begin_initialiser, by_test, concluded, unfolded, ended, after_break, after_continue}
use Rattle.dm_meaning.specs.Steps.{given_from, opened_memory, opened, lacks_value, gone_back, handed_back, is_main, gives_nothing, body_place, no_place, closed, turned, moved, scene_of, expression_steps, task_steps, steps_from, next, Step}
use Rattle.dm_meaning.specs.Units.{AreBytes, static_numbers, zeroed_from, static_value, initialised, all_initialised, statics_memory, argv_kind, arguments_for, start, main_of, machine_of}
use Rattle.dm_meaning.specs.Choices.{chosen, in_order, stepped, after, after_start, run_by}
use Rattle.dm_meaning.proofs.AmongLemmas.{among-map_from}
use Rattle.dm_meaning.proofs.FormLemmas.{one_tree_has, first_tree_has, option_tree_has, if_tree_has}
use Rattle.dm_meaning.proofs.ExtendLemmas.{look_changed}
use Rattle.dm_meaning.proofs.GrowLemmas.{differ_is}
use Rattle.dm_meaning.proofs.MoveLemmas.{HasOne}
use Rattle.dm_meaning.proofs.OptionLemmas.{none_is_some, some_is_some}
use Rattle.dm_meaning.proofs.StateLemmas.{from_steps}
use Rattle.dm_meaning.proofs.StepLemmas.{has_next}
use Rattle.dm_meaning.proofs.StoreLemmas.{MoveKeeps, moves_keep}

-- ---- memory

-- no object has a number as great as how many there are
abbrev pub InOrder : Memory → Type 0
InOrder memory = (n : ℕ) → length memory ≤ n → look_up memory n ≡ None

pub fresh_in_order : (memory : Memory) → InOrder memory → IsFresh (in_order memory) memory
fresh_in_order memory order = ((λ i j e. omega (arith, e)), λ i. order (length memory + i) (omega arith))

length_changed : (n : ℕ) (change : Block → Block) (memory : Memory) → length (changed_block n change memory) ≡ length memory
length_changed n change [] = refl
length_changed n change (entry ∷ entries) = ap suc (length_changed n change entries)

order_changed : (n : ℕ) (change : Block → Block) (memory : Memory) → InOrder memory → InOrder (changed_block n change memory)
order_changed n change memory order m long =
    look_changed n change memory m ∙ ap (option_map (λ block. if m == n then change block else block)) (order m (subst (λ k. k ≤ m) (length_changed n change memory) long))

length_written : (name : Name) (path : Path) (value : Value) (memory : Memory) → length (written memory (record { name = name; path = path }) value) ≡ length memory
length_written (numbered n) path value memory = length_changed n (λ block. record block { contents = with_part path value block.contents }) memory
length_written (literal_of bytes unit) path value memory = refl
length_written (elsewhere identifier) path value memory = refl

order_written : (name : Name) (path : Path) (value : Value) (memory : Memory) → InOrder memory → InOrder (written memory (record { name = name; path = path }) value)
order_written (numbered n) path value memory order = order_changed n (λ block. record block { contents = with_part path value block.contents }) memory order
order_written (literal_of bytes unit) path value memory order = order
order_written (elsewhere identifier) path value memory order = order

order_stored : (at : At) (value : Value) (memory : Memory) → InOrder memory → InOrder (written memory at value)
order_stored at value memory order = order_written at.name at.path value memory order

order_killed : (ns : List ℕ) (memory : Memory) → InOrder memory → InOrder (killed ns memory)
order_killed [] memory order = order
order_killed (n ∷ ns) memory order = order_killed ns _ (order_changed n (λ block. record block { alive = false }) memory order)

-- and the names from the i-th on are the next numbers
abbrev AreNext : (ℕ → ℕ) → ℕ → Memory → Type 0
AreNext names i memory = InOrder memory × ((j k : ℕ) → k ≡ i + j → names k ≡ length memory + j)

next_added : (names : ℕ → ℕ) (i : ℕ) (block : Block) (memory : Memory) → AreNext names i memory → AreNext names (suc i) ((names i, block) ∷ memory)
next_added names i block memory h = (
  λ n long.
      ap (λ b. if b then Some block else look_up memory n) (differ_is (names i) n (λ e. apart n long (sym e ∙ h.1 0 i (omega arith))))
      ∙ h.0 n (shorter n long),
  λ j k e. h.1 (suc j) k (omega (arith, e)) ∙ shifted j,
)
  where
    apart : (n : ℕ) → suc (length memory) ≤ n → n ≡ length memory + 0 → ⊥
    apart n long e = omega (arith, long, e)

    shorter : (n : ℕ) → suc (length memory) ≤ n → length memory ≤ n
    shorter n long = omega (arith, long)

    shifted : (j : ℕ) → length memory + suc j ≡ suc (length memory) + j
    shifted j = omega arith

next_at : (names : ℕ → ℕ) (i k : ℕ) (memory : Memory) → i ≡ k → AreNext names i memory → AreNext names k memory
next_at names i k memory e h = subst (λ x. AreNext names x memory) e h

next_index : (i n : ℕ) → suc i + n ≡ i + suc n
next_index i n = omega arith

next_made : (program : Program) (names : ℕ → ℕ) (i : ℕ) (ds : List ℕ) (memory : Memory) → AreNext names i memory → InOrder (made_from program names i ds memory)
next_made program names i [] memory h = h.0
next_made program names i (d ∷ ds) memory h = next_made program names (suc i) ds _ (next_added names i (new_block (layout program) (type_declared program d)) memory h)

next_given : (program : Program) (names : ℕ → ℕ) (i : ℕ) (ds : List ℕ) (arguments : List Value) (memory : Memory) → AreNext names i memory → AreNext names (i + length ds) (given_from program names i ds arguments memory)
next_given program names i [] [] memory h = next_at names i (i + 0) memory (omega arith) h
next_given program names i [] (value ∷ arguments) memory h = next_at names i (i + 0) memory (omega arith) h
next_given program names i (d ∷ ds) [] memory h =
    next_at names (suc i + length ds) (i + suc (length ds)) _ (next_index i (length ds))
    (next_given program names (suc i) ds [] _ (next_added names i (new_block (layout program) (type_declared program d)) memory h))
next_given program names i (d ∷ ds) (value ∷ arguments) memory h =
    next_at names (suc i + length ds) (i + suc (length ds)) _ (next_index i (length ds))
    (next_given program names (suc i) ds arguments _ (next_added names i (record (new_block (layout program) (type_declared program d)) { contents = value }) memory h))

order_opened : (program : Program) (names : ℕ → ℕ) (definition : Definition) (arguments : List Value) (memory : Memory) → AreNext names 0 memory → InOrder (opened_memory program names definition arguments memory)
order_opened program names definition arguments memory h =
    next_made program names (length definition.parameters) (declared_in program (parts_of definition.body)) (given_from program names 0 definition.parameters arguments memory)
    (next_at names (0 + length definition.parameters) (length definition.parameters) _ (omega arith) (next_given program names 0 definition.parameters arguments memory h))

-- ---- beginnings

next_zeroed : (program : Program) (names : ℕ → ℕ) (i : ℕ) (ds : List ℕ) (memory : Memory) → AreNext names i memory → AreNext names (i + length ds) (zeroed_from program names i ds memory)
next_zeroed program names i [] memory h = next_at names i (i + 0) memory (omega arith) h
next_zeroed program names i (d ∷ ds) memory h =
    let kind = type_declared program d in
    next_at names (suc i + length ds) (i + suc (length ds)) _ (next_index i (length ds))
    (next_zeroed program names (suc i) ds _ (next_added names i (record (new_block (layout program) kind) { contents = all_zero (layout program) kind }) memory h))

-- as many objects, in order
next_same : (names : ℕ → ℕ) (i : ℕ) (memory later : Memory) → length later ≡ length memory → (InOrder memory → InOrder later) → AreNext names i memory → AreNext names i later
next_same names i memory later e kept h = (kept h.0, λ j k f. h.1 j k f ∙ ap (λ n. n + j) (sym e))

next_initialised : (program : Program) (objects : Objects) (known : Memory) (names : ℕ → ℕ) (i : ℕ) (statics : List Static) (memory : Memory) → AreNext names i memory
    → AreNext names i (all_initialised program objects known statics memory)
next_initialised program objects known names i [] memory h = h
next_initialised program objects known names i (static ∷ statics) memory h =
    next_initialised program objects known names i statics _ (one (object_named objects static.declared) static.initialiser)
  where
    one : (n : Option ℕ) (initialiser : Option Initialiser) → AreNext names i (initialised program objects known static n initialiser memory)
    one (Some n) (Some initialiser) =
        let value = static_value program objects known (type_declared program static.declared) initialiser static.expressions in
        next_same names i memory (written memory (whole (numbered n)) value) (length_written (numbered n) [] value memory) (order_written (numbered n) [] value memory) h
    one None initialiser = h
    one (Some n) None = h

length_numbers : (statics : List Static) → 0 + length (static_numbers statics) ≡ length statics
length_numbers [] = refl
length_numbers (static ∷ statics) = omega (arith, length_numbers statics)

order_start : (program : Program) (main : Definition) (input : List ℕ) → InOrder (start (λ i. i) program main input).world.memory
order_start program main input =
    let statics = named_from (λ i. i) 0 (static_numbers program.statics) [] in
    let argv = length program.statics in
    let block = record (new_block (layout program) argv_kind) { contents = all_zero (layout program) argv_kind } in
    let zeroed = zeroed_from program (λ i. i) 0 (static_numbers program.statics) [] in
    let first : AreNext (λ i. i) 0 [] = ((λ n long. refl), λ j k e. e) in
    let made = next_initialised program statics zeroed (λ i. i) argv program.statics zeroed
    (next_at (λ i. i) (0 + length (static_numbers program.statics)) argv zeroed (length_numbers program.statics) (next_zeroed program (λ i. i) 0 (static_numbers program.statics) [] first)) in
    let all = next_added (λ i. i) argv block (statics_memory program (λ i. i) statics) made in
    order_opened program (λ i. suc argv + i) main (arguments_for argv main.parameters) ((argv, block) ∷ statics_memory program (λ i. i) statics)
    (all.0, λ j k e. all.1 j (suc argv + k) (omega (arith, e)))

-- ---- steps

module _ (program : Program) (names : ℕ → ℕ) (objects : Objects) (memory : Memory) (new : AreNext names 0 memory) where
  abbrev TurnOrders : Turned → Type 0
  TurnOrders (onward others tasks later) = InOrder later
  TurnOrders (refused cause place) = Unit {0}

  returning_orders : (o : Option Tree) → TurnOrders (returning objects memory o)
  returning_orders None = new.0
  returning_orders (Some tree) = new.0

  form_begins : (rest : List Task) (label : Label) (trees : List Tree) → TurnOrders (begin_form program names objects rest memory label trees)
  form_begins rest block_form trees = next_made program names 0 (declared_in program trees) memory new
  form_begins rest full trees = one_tree_has TurnOrders trees _ _ (λ x. new.0) new.0
  form_begins rest if_statement trees = first_tree_has TurnOrders trees _ _ (λ x xs. first_tree_has TurnOrders xs _ _ (λ y ys. option_tree_has TurnOrders ys _ _ (λ z. new.0) new.0) new.0) new.0
  form_begins rest switch trees = first_tree_has TurnOrders trees _ _ (λ x xs. new.0) new.0
  form_begins rest while_loop trees = first_tree_has TurnOrders trees _ _ (λ x xs. one_tree_has TurnOrders xs _ _ (λ y. new.0) new.0) new.0
  form_begins rest do_loop trees = first_tree_has TurnOrders trees _ _ (λ x xs. one_tree_has TurnOrders xs _ _ (λ y. new.0) new.0) new.0
  form_begins rest (for_loop first second third) trees =
      if_tree_has TurnOrders first trees _ _
      (λ x xs. if_tree_has TurnOrders second xs _ _
      (λ y ys. if_tree_has TurnOrders third ys _ _
      (λ z zs. one_tree_has TurnOrders zs _ _ (λ b. next_made program names 0 (declared_in program (as_list x)) memory new) new.0)
      new.0)
      new.0)
      new.0
  form_begins rest break trees = new.0
  form_begins rest continue trees = new.0
  form_begins rest return trees = option_tree_has TurnOrders trees (returning objects memory) _ returning_orders new.0
  form_begins rest label trees = new.0

  statement_orders : (rest : List Task) (tree : Tree) → TurnOrders (begin_tree program names objects rest memory tree)
  statement_orders rest (node label kind spans trees) = form_begins rest label (listed trees)

  initialiser_orders : (rest : List Task) (at : At) (kind : CType) (initialiser : Initialiser) (trees : List Tree) → TurnOrders (begin_initialiser program objects rest memory at kind initialiser trees)
  initialiser_orders rest at kind one_expression trees = one_tree_has TurnOrders trees _ _ (λ x. new.0) new.0
  initialiser_orders rest at kind (in_braces items) trees = order_stored at _ memory new.0

  test_orders : (place : Place) (truth : Truth) (following : Bool → Turned) → ((b : Bool) → TurnOrders (following b)) → TurnOrders (by_test place truth following)
  test_orders place (holds b) following h = h b
  test_orders place (untold cause) following h = tt

  conclusion_orders : (rest : List Task) (place : Place) (use_of : Use) (result : Result) → TurnOrders (concluded program objects rest memory place use_of result)
  conclusion_orders rest place drops result = new.0
  conclusion_orders rest place (chooses first second) result = test_orders place (truth_of memory (value_of result)) _ (λ b. new.0)
  conclusion_orders rest place (selects items) result = new.0
  conclusion_orders rest place (repeats loop) result = test_orders place (truth_of memory (value_of result)) _ (λ b. new.0)
  conclusion_orders rest place (continues loop) result = new.0
  conclusion_orders rest place returns result = new.0
  conclusion_orders rest place (initialises at kind) result = order_stored at _ memory new.0

  ended_orders : (saved : Objects) (rest : List Task) → TurnOrders (ended saved objects rest memory)
  ended_orders saved rest = order_killed (named_since saved objects) memory new.0

  break_orders : (tasks : List Task) → TurnOrders (after_break objects memory tasks)
  break_orders [] = new.0
  break_orders (again saved loop ∷ rest) = ended_orders saved rest
  break_orders (ends_switch saved ∷ rest) = ended_orders saved (ends_switch saved ∷ rest)
  break_orders (task ∷ rest) = break_orders rest

  continue_orders : (tasks : List Task) → TurnOrders (after_continue objects memory tasks)
  continue_orders [] = new.0
  continue_orders (again saved loop ∷ rest) = ended_orders saved (again saved loop ∷ rest)
  continue_orders (task ∷ rest) = continue_orders rest

-- ---- states

module _ (program : Program) (names : ℕ → ℕ) (state : State) (new : AreNext names 0 state.world.memory) where
  abbrev StateOrders : State → Type 0
  StateOrders other = InOrder other.world.memory

  turned_orders : (t : Turned) → TurnOrders program names state.frame.objects state.world.memory new t → (other : State) → IsAmong other (turned state t ∷ []) → StateOrders other
  turned_orders (onward objects tasks memory) h other (inl e) = subst StateOrders (sym e) h
  turned_orders (refused cause place) h other (inl e) = subst StateOrders (sym e) new.0
  turned_orders t h other (inr e) = absurd e

  either_orders : (b : Bool) (x y : State) → StateOrders x → StateOrders y → StateOrders (if b then x else y)
  either_orders true x y h k = h
  either_orders false x y h k = k

  closed_orders : StateOrders (closed program state)
  closed_orders =
      either_orders (is_main (declaration_of program state.frame.function)) _ _ new.0
      (either_orders (gives_nothing (type_declared program state.frame.function)) (record state { frame = record state.frame { tasks = hands_back unset ∷ [] } })
      (record state { standing = undefined NoValue (body_place (definition_of program state.frame.function) no_place) }) new.0 new.0)

  back_orders : (value : Value) (callers : List Caller) → StateOrders (handed_back state value callers)
  back_orders value [] = new.0
  back_orders value (caller ∷ callers) =
      either_orders (lacks_value caller.kind value) (record state { standing = undefined NoValue caller.place }) (gone_back state value caller callers) new.0
      (order_killed (map (λ entry. entry.1) state.frame.objects) state.world.memory new.0)

  module _ (rest : List Task) (place : Place) (use_of : Use) where
    opened_orders : (kind : CType) (hole : Hole) (arguments : List Value) (o : Option Definition) → StateOrders (opened program names state rest place use_of kind hole arguments o)
    opened_orders kind hole arguments None = new.0
    opened_orders kind hole arguments (Some definition) = order_opened program names definition arguments state.world.memory new

    moved_orders : (m : Move Run Hole) → MoveKeeps InOrder order_stored (scene_of program state) state.world [] new.0 m → StateOrders (moved program names state rest place use_of m)
    moved_orders (goes world run) h = h
    moved_orders (calls f arguments kind hole) h = opened_orders kind hole arguments (definition_of program f)
    moved_orders (fails cause at) h = new.0
    moved_orders (exits status) h = new.0

    expression_orders : (run : Run) (other : State) → IsAmong other (expression_steps program names state rest place use_of run) → StateOrders other
    expression_orders (done kind result locks) other e =
        turned_orders _ (conclusion_orders program names state.frame.objects state.world.memory new rest place use_of result) other e
    expression_orders (to_do doing kind at members) other e =
        let run = to_do doing kind at members in
        let from = among-map_from (moved program names state rest place use_of) other (moves (scene_of program state) state.world (locks_in run) run) e in
        subst StateOrders (sym from.2) (moved_orders from.0 (moves_keep InOrder order_stored (scene_of program state) state.world (locks_in run) new.0 run from.0 from.1))

  one_orders : (one other : State) → StateOrders one → IsAmong other (one ∷ []) → StateOrders other
  one_orders one other h (inl e) = subst StateOrders (sym e) h
  one_orders one other h (inr e) = absurd e

  task_orders : (tasks : List Task) (other : State) → IsAmong other (task_steps program names state tasks) → StateOrders other
  task_orders [] other e = one_orders (closed program state) other closed_orders e
  task_orders (begins tree ∷ rest) other e = turned_orders _ (statement_orders program names state.frame.objects state.world.memory new rest (unlabelled tree)) other e
  task_orders (declares declarator trees ∷ rest) other e = turned_orders (begin_declarator program state.frame.objects rest state.world.memory declarator trees) new.0 other e
  task_orders (initials at kind initialiser trees ∷ rest) other e = turned_orders _ (initialiser_orders program names state.frame.objects state.world.memory new rest at kind initialiser trees) other e
  task_orders (evaluates place run use_of ∷ rest) other e = expression_orders rest place use_of run other e
  task_orders (again saved loop ∷ rest) other e = absurd e
  task_orders (tests saved loop ∷ rest) other e = absurd e
  task_orders (ends saved ∷ rest) other e = turned_orders (ended saved state.frame.objects rest state.world.memory) (ended_orders program names state.frame.objects state.world.memory new saved rest) other e
  task_orders (ends_switch saved ∷ rest) other e = turned_orders (ended saved state.frame.objects rest state.world.memory) (ended_orders program names state.frame.objects state.world.memory new saved rest) other e
  task_orders (leaves ∷ rest) other e = turned_orders _ (break_orders program names state.frame.objects state.world.memory new rest) other e
  task_orders (skips ∷ rest) other e = turned_orders _ (continue_orders program names state.frame.objects state.world.memory new rest) other e
  task_orders (hands_back value ∷ rest) other e = one_orders (handed_back state value state.callers) other (back_orders value state.callers) e

-- ---- runs

-- a number chooses one of the states
chosen_among : (state : State) (n : ℕ) (states : List State) → HasOne states → IsAmong (chosen state n states) states
chosen_among state n [] h = absurd h.1
chosen_among state n (first ∷ []) h = inl refl
chosen_among state zero (first ∷ second ∷ rest) h = inl refl
chosen_among state (suc n) (first ∷ second ∷ rest) h = inr (chosen_among state n (second ∷ rest) (second, inl refl))

none_from : (standing : Standing) (states : List State) → (standing ≡ going → ⊥) → steps_from standing states ≡ []
none_from going states h = absurd (h refl)
none_from (exited status) states h = refl
none_from (undefined cause place) states h = refl

exited_not_going : (status : ℕ) → exited status ≡ going → ⊥
exited_not_going status e = cc

undefined_not_going : (cause : Cause) (place : Place) → undefined cause place ≡ going → ⊥
undefined_not_going cause place e = cc

module _ (program : Program) where
  -- what goes on takes a step
  chosen_steps : (choice : ℕ) (state : State) → InOrder state.world.memory → state.standing ≡ going → Step program state (stepped program choice state) × InOrder (stepped program choice state).world.memory
  chosen_steps choice state order e =
      let names = in_order state.world.memory in
      let among = chosen_among state choice (next names program state) (has_next names program state e) in (
        (names, fresh_in_order state.world.memory order, among),
        task_orders program names state (order, λ j k f. same j k f) (unfolded state.frame.tasks) (stepped program choice state) (from_steps state.standing _ _ among).1,
      )
    where
      same : (j k : ℕ) → k ≡ 0 + j → length state.world.memory + k ≡ length state.world.memory + j
      same j k f = omega (arith, f)

  -- what has ended stays
  ended_stays : (choice : ℕ) (state : State) → (state.standing ≡ going → ⊥) → stepped program choice state ≡ state
  ended_stays choice state h = ap (chosen state choice) (none_from state.standing (task_steps program (in_order state.world.memory) state (unfolded state.frame.tasks)) h)

  stays_after : (choices : List ℕ) (state : State) → (state.standing ≡ going → ⊥) → after program choices state ≡ state
  stays_after [] state h = refl
  stays_after (choice ∷ choices) state h = ap (after program choices) (ended_stays choice state h) ∙ stays_after choices state h

  -- so many steps lead there, or fewer
  record GoesWithin (n : ℕ) (state other : State) : Type 0 where
    pub taken : ℕ
    pub goes : Goes (machine_of program) taken state other
    pub few : taken ≤ n
    pub all : other.standing ≡ going → taken ≡ n

  goes_after : (choices : List ℕ) (state : State) → InOrder state.world.memory → GoesWithin (length choices) state (after program choices state)
  unfolding Goes
  goes_after [] state order = record { taken = 0; goes = refl; few = omega arith; all = λ e. refl }
  goes_after (choice ∷ choices) state order = by_standing state.standing refl (λ e. let one = chosen_steps choice state order e in joined one.0 (goes_after choices (stepped program choice state) one.1))
    where
      joined : Step program state (stepped program choice state) → GoesWithin (length choices) (stepped program choice state) (after program choices (stepped program choice state))
          → GoesWithin (suc (length choices)) state (after program (choice ∷ choices) state)
      joined step rest = record { taken = suc rest.taken; goes = (stepped program choice state, step, rest.goes); few = omega (arith, rest.few); all = λ e. ap suc (rest.all e) }

      stays : (state.standing ≡ going → ⊥) → GoesWithin (suc (length choices)) state (after program (choice ∷ choices) state)
      stays h =
          let same = stays_after (choice ∷ choices) state h in
          record { taken = 0; goes = sym same; few = omega arith; all = λ e. absurd (h (sym (ap (λ (s : State). s.standing) same) ∙ e)) }

      by_standing : (standing : Standing) → state.standing ≡ standing → (state.standing ≡ going → GoesWithin (suc (length choices)) state (after program (choice ∷ choices) state))
          → GoesWithin (suc (length choices)) state (after program (choice ∷ choices) state)
      by_standing going e later = later e
      by_standing (exited status) e later = stays (λ f. exited_not_going status (sym e ∙ f))
      by_standing (undefined cause place) e later = stays (λ f. undefined_not_going cause place (sym e ∙ f))

-- a run by choices is one of the machine's
pub chosen_runs : (program : Program) (choices input : List ℕ) (state : State) → AreBytes input → run_by program choices input ≡ Some state
    → RunsWithin (machine_of program) input (length choices) state
chosen_runs program choices input state bytes e = by_main (main_of program) refl e
  where
    by_main : (o : Option Definition) → main_of program ≡ o → after_start program choices input o ≡ Some state → RunsWithin (machine_of program) input (length choices) state
    by_main None f g = absurd (none_is_some state g)
    by_main (Some main) f g =
        let first = start (λ i. i) program main input in
        let there = goes_after program choices first (order_start program main input) in
        let same = some_is_some (after program choices first) state g in
        record {
          taken = there.taken;
          run = record {
            start = first;
            begins = (bytes, (λ i. i), ((λ i j h. h), λ i. refl), main, f, refl);
            goes = subst (λ s. Goes (machine_of program) there.taken first s) same there.goes;
          };
          few = there.few;
          all = λ h. there.all (ap (λ (s : State). s.standing) same ∙ h);
        }
