-- A step leaves each object as it is but for what it holds, unless it is one of the frame that is running.
use Rattle.std.specs.Prelude.{◌≡◌, refl, ◌⊎◌, ℕ, zero, suc, ◌-◌, ◌==◌, Bool, true, false, List, [], ◌∷◌, map, length, take, Option, Some, None, option_map, pos, if◌then◌else◌}
use Rattle.std.proofs.Common.{ap, sym, ◌∙◌, subst, inl, inr}
use Rattle.dm_token.specs.declared.place.Place.{Place}
use Rattle.dm_int.specs.declared.Kind.TheVariants.{Int}
use Rattle.dm_type.specs.CTypes.{CType}
use Rattle.dm_tree.specs.Trees.{Label, block as block_form, for_loop, full, if_statement, switch, while_loop, do_loop, break, continue, return, Tree, node, listed, parts_of, Initialiser, one_expression, in_braces}
use Rattle.dm_meaning.specs.declared.cause.Cause.TheVariants.{NoValue}
use Rattle.dm_meaning.specs.Among.{IsAmong}
use Rattle.dm_meaning.specs.Machines.{undefined}
use Rattle.dm_meaning.specs.Values.{Name, numbered, Path, At, Value, integer_value, unset}
use Rattle.dm_meaning.specs.Memory.{Memory, Block, look_up, changed_block, written, killed, IsFresh}
use Rattle.dm_meaning.specs.Primitives.{Prim}
use Rattle.dm_meaning.specs.Programs.{Program, Definition, declaration_of, definition_of}
use Rattle.dm_meaning.specs.Operations.{Result, Objects, Truth, holds, untold, truth_of}
use Rattle.dm_meaning.specs.Running.{Run, done, to_do, locks_in, Hole}
use Rattle.dm_meaning.specs.Expressions.{Move, goes, calls, fails, exits, value_of, moves}
use Rattle.dm_meaning.specs.States.{Use, drops, chooses, selects, repeats, continues, returns, initialises, Task, begins, declares, initials, evaluates as evaluating, again, tests, ends, ends_switch, leaves, skips, hands_back, Caller, State}
use Rattle.dm_meaning.specs.Statements.{Turned, onward, refused, type_declared, made_from, named_since, declared_in, as_list, returning, begin_form, begin_tree, begin_statement, unlabelled, begin_declarator, begin_initialiser, by_test, concluded, unfolded, ended, after_break, after_continue}
use Rattle.dm_meaning.specs.Steps.{given_from, opened, lacks_value, gone_back, handed_back, is_main, gives_nothing, body_place, no_place, turned, moved, scene_of, expression_steps, task_steps, Step}
use Rattle.dm_meaning.specs.Lifetimes.{numbers_of}
use Rattle.dm_meaning.proofs.AmongLemmas.{among-map_from}
use Rattle.dm_meaning.proofs.FormLemmas.{one_tree_has, first_tree_has, option_tree_has, if_tree_has}
use Rattle.dm_meaning.proofs.ExtendLemmas.{look_changed}
use Rattle.dm_meaning.proofs.GrowLemmas.{equal_of, look_added}
use Rattle.dm_meaning.proofs.OptionLemmas.{none_is_some}
use Rattle.dm_meaning.proofs.StateLemmas.{from_steps}
use Rattle.dm_meaning.proofs.StoreLemmas.{MoveKeeps, moves_keep}
use Rattle.dm_rewrite.specs.KeptMemory.{emptied}
use Rattle.dm_rewrite.proofs.EffectLemmas.{written_shape}

-- ---- memory

-- the object is there, and is this one but for what it holds
abbrev pub IsLasting : Block → Memory → ℕ → Type 0
IsLasting shape memory n = emptied (look_up memory n) ≡ Some shape

last_written : (shape : Block) (name : Name) (path : Path) (value : Value) (memory : Memory) (n : ℕ) → IsLasting shape memory n → IsLasting shape (written memory (record { name = name; path = path }) value) n
last_written shape name path value memory n h = written_shape memory (record { name = name; path = path }) value (numbered n) ∙ h

last_stored : (shape : Block) (n : ℕ) (at : At) (value : Value) (memory : Memory) → IsLasting shape memory n → IsLasting shape (written memory at value) n
last_stored shape n at value memory h = last_written shape at.name at.path value memory n h

last_added : (shape : Block) (m : ℕ) (block : Block) (memory : Memory) (n : ℕ) → (m ≡ n → ⊥) → IsLasting shape memory n → IsLasting shape ((m, block) ∷ memory) n
last_added shape m block memory n differ h = ap emptied (look_added m block memory n differ) ∙ h

last_made : (shape : Block) (program : Program) (names : ℕ → ℕ) (n : ℕ) → ((i : ℕ) → names i ≡ n → ⊥) → (i : ℕ) (ds : List ℕ) (memory : Memory) → IsLasting shape memory n → IsLasting shape (made_from program names i ds memory) n
last_made shape program names n new i [] memory h = h
last_made shape program names n new i (d ∷ ds) memory h = last_made shape program names n new (suc i) ds _ (last_added shape (names i) _ memory n (new i) h)

last_given : (shape : Block) (program : Program) (names : ℕ → ℕ) (n : ℕ) → ((i : ℕ) → names i ≡ n → ⊥) → (i : ℕ) (ds : List ℕ) (values : List Value) (memory : Memory) → IsLasting shape memory n
    → IsLasting shape (given_from program names i ds values memory) n
last_given shape program names n new i [] [] memory h = h
last_given shape program names n new i [] (value ∷ values) memory h = h
last_given shape program names n new i (d ∷ ds) [] memory h = last_given shape program names n new (suc i) ds [] _ (last_added shape (names i) _ memory n (new i) h)
last_given shape program names n new i (d ∷ ds) (value ∷ values) memory h = last_given shape program names n new (suc i) ds values _ (last_added shape (names i) _ memory n (new i) h)

-- names that were never used are those of no object
new_names : (shape : Block) (names : ℕ → ℕ) (memory : Memory) (n : ℕ) → IsFresh names memory → IsLasting shape memory n → (i : ℕ) → names i ≡ n → ⊥
new_names shape names memory n fresh h i e = none_is_some shape (sym (ap emptied (sym (ap (look_up memory) e) ∙ fresh.1 i)) ∙ h)

-- a lifetime ends
last_killed : (shape : Block) (ns : List ℕ) (memory : Memory) (n : ℕ) → IsLasting shape memory n → IsAmong n ns ⊎ IsLasting shape (killed ns memory) n
last_killed shape [] memory n h = inr h
last_killed shape (m ∷ ns) memory n h = by_case (n == m) refl (λ k. last_killed shape ns (changed_block m end memory) n k)
  where
    end : Block → Block
    end x = record x { alive = false }

    same : (b : Bool) → b ≡ false → (o : Option Block) → emptied (option_map (λ x. if b then end x else x) o) ≡ emptied o
    same true e o = absurd (cc)
    same false e None = refl
    same false e (Some block) = refl

    later : IsAmong n ns ⊎ IsLasting shape (killed ns (changed_block m end memory)) n → IsAmong n (m ∷ ns) ⊎ IsLasting shape (killed ns (changed_block m end memory)) n
    later (inl k) = inl (inr k)
    later (inr k) = inr k

    by_case : (b : Bool) → (n == m) ≡ b → (IsLasting shape (changed_block m end memory) n → IsAmong n ns ⊎ IsLasting shape (killed ns (changed_block m end memory)) n)
        → IsAmong n (m ∷ ns) ⊎ IsLasting shape (killed ns (changed_block m end memory)) n
    by_case true e rest = inl (inl (equal_of n m e))
    by_case false e rest = later (rest (ap emptied (look_changed m end memory n) ∙ same (n == m) e (look_up memory n) ∙ h))

among_taken : (n : ℕ) (i : ℕ) (objects : Objects) → IsAmong n (map (λ entry. entry.1) (take i objects)) → IsAmong n (numbers_of objects)
among_taken n zero objects h = absurd h
among_taken n (suc i) [] h = absurd h
among_taken n (suc i) (entry ∷ entries) (inl e) = inl e
among_taken n (suc i) (entry ∷ entries) (inr h) = inr (among_taken n i entries h)

-- ---- statements

module _ (shape : Block) (n : ℕ) (program : Program) (names : ℕ → ℕ) (objects : Objects) (memory : Memory) (lasting : IsLasting shape memory n) (new : (i : ℕ) → names i ≡ n → ⊥) where
  -- the object is one of the frame, or still there
  abbrev Keeps : Turned → Type 0
  Keeps (onward others tasks after) = IsAmong n (numbers_of objects) ⊎ IsLasting shape after n
  Keeps (refused cause place) = Unit {0}

  returning_keeps : (o : Option Tree) → Keeps (returning objects memory o)
  returning_keeps None = inr lasting
  returning_keeps (Some tree) = inr lasting

  begin_keeps : (rest : List Task) (label : Label) (trees : List Tree) → Keeps (begin_form program names objects rest memory label trees)
  begin_keeps rest block_form trees = inr (last_made shape program names n new 0 (declared_in program trees) memory lasting)
  begin_keeps rest full trees = one_tree_has Keeps trees _ _ (λ x. inr lasting) (inr lasting)
  begin_keeps rest if_statement trees =
      first_tree_has Keeps trees _ _ (λ x xs. first_tree_has Keeps xs _ _ (λ y ys. option_tree_has Keeps ys _ _ (λ z. inr lasting) (inr lasting)) (inr lasting)) (inr lasting)
  begin_keeps rest switch trees = first_tree_has Keeps trees _ _ (λ x xs. inr lasting) (inr lasting)
  begin_keeps rest while_loop trees = first_tree_has Keeps trees _ _ (λ x xs. one_tree_has Keeps xs _ _ (λ y. inr lasting) (inr lasting)) (inr lasting)
  begin_keeps rest do_loop trees = first_tree_has Keeps trees _ _ (λ x xs. one_tree_has Keeps xs _ _ (λ y. inr lasting) (inr lasting)) (inr lasting)
  begin_keeps rest (for_loop first second third) trees =
      if_tree_has Keeps first trees _ _
      (λ x xs. if_tree_has Keeps second xs _ _
      (λ y ys. if_tree_has Keeps third ys _ _
      (λ z zs. one_tree_has Keeps zs _ _ (λ b. inr (last_made shape program names n new 0 (declared_in program (as_list x)) memory lasting)) (inr lasting))
      (inr lasting))
      (inr lasting))
      (inr lasting)
  begin_keeps rest break trees = inr lasting
  begin_keeps rest continue trees = inr lasting
  begin_keeps rest return trees = option_tree_has Keeps trees (returning objects memory) _ returning_keeps (inr lasting)
  begin_keeps rest label trees = inr lasting

  statement_keeps : (rest : List Task) (tree : Tree) → Keeps (begin_tree program names objects rest memory tree)
  statement_keeps rest (node label kind spans trees) = begin_keeps rest label (listed trees)

  initialiser_keeps : (rest : List Task) (at : At) (kind : CType) (initialiser : Initialiser) (trees : List Tree) → Keeps (begin_initialiser program objects rest memory at kind initialiser trees)
  initialiser_keeps rest at kind one_expression trees = one_tree_has Keeps trees _ _ (λ x. inr lasting) (inr lasting)
  initialiser_keeps rest at kind (in_braces items) trees = inr (last_written shape at.name at.path _ memory n lasting)

  test_keeps : (place : Place) (truth : Truth) (following : Bool → Turned) → ((b : Bool) → Keeps (following b)) → Keeps (by_test place truth following)
  test_keeps place (holds b) following h = h b
  test_keeps place (untold cause) following h = tt

  conclusion_keeps : (rest : List Task) (place : Place) (use_of : Use) (result : Result) → Keeps (concluded program objects rest memory place use_of result)
  conclusion_keeps rest place drops result = inr lasting
  conclusion_keeps rest place (chooses first second) result = test_keeps place (truth_of memory (value_of result)) _ (λ b. inr lasting)
  conclusion_keeps rest place (selects items) result = inr lasting
  conclusion_keeps rest place (repeats loop) result = test_keeps place (truth_of memory (value_of result)) _ (λ b. inr lasting)
  conclusion_keeps rest place (continues loop) result = inr lasting
  conclusion_keeps rest place returns result = inr lasting
  conclusion_keeps rest place (initialises at kind) result = inr (last_written shape at.name at.path _ memory n lasting)

  ended_keeps : (saved : Objects) (rest : List Task) → Keeps (ended saved objects rest memory)
  ended_keeps saved rest = pick (last_killed shape (named_since saved objects) memory n lasting)
    where
      pick : IsAmong n (named_since saved objects) ⊎ IsLasting shape (killed (named_since saved objects) memory) n → IsAmong n (numbers_of objects) ⊎ IsLasting shape (killed (named_since saved objects) memory) n
      pick (inl h) = inl (among_taken n (length objects - length saved) objects h)
      pick (inr h) = inr h

  break_keeps : (tasks : List Task) → Keeps (after_break objects memory tasks)
  break_keeps [] = inr lasting
  break_keeps (again saved loop ∷ rest) = ended_keeps saved rest
  break_keeps (ends_switch saved ∷ rest) = ended_keeps saved (ends_switch saved ∷ rest)
  break_keeps (task ∷ rest) = break_keeps rest

  continue_keeps : (tasks : List Task) → Keeps (after_continue objects memory tasks)
  continue_keeps [] = inr lasting
  continue_keeps (again saved loop ∷ rest) = ended_keeps saved (again saved loop ∷ rest)
  continue_keeps (task ∷ rest) = continue_keeps rest

-- ---- states

module _ (shape : Block) (n : ℕ) (program : Program) (names : ℕ → ℕ) (state : State) (fresh : IsFresh names state.world.memory) (lasting : IsLasting shape state.world.memory n) where
  abbrev StateKeeps : State → Type 0
  StateKeeps other = IsAmong n (numbers_of state.frame.objects) ⊎ IsLasting shape other.world.memory n

  never_used : (i : ℕ) → names i ≡ n → ⊥
  never_used = new_names shape names state.world.memory n fresh lasting

  turned_keeps : (t : Turned) → Keeps shape n program names state.frame.objects state.world.memory lasting never_used t → StateKeeps (turned state t)
  turned_keeps (onward objects tasks memory) h = h
  turned_keeps (refused cause place) h = inr lasting

  closed_keeps : (a b : Bool) (x y : State) (z : State) → StateKeeps x → StateKeeps y → StateKeeps z → StateKeeps (if a then x else if b then y else z)
  closed_keeps true b x y z h k l = h
  closed_keeps false true x y z h k l = k
  closed_keeps false false x y z h k l = l

  back_keeps : (value : Value) (callers : List Caller) → StateKeeps (handed_back state value callers)
  back_keeps value [] = inr lasting
  back_keeps value (caller ∷ callers) = by_lack (lacks_value caller.kind value)
    where
      by_lack : (b : Bool) → StateKeeps (if b then record state { standing = undefined NoValue caller.place } else gone_back state value caller callers)
      by_lack true = inr lasting
      by_lack false = last_killed shape (numbers_of state.frame.objects) state.world.memory n lasting

  opened_keeps : (rest : List Task) (place : Place) (use_of : Use) (kind : CType) (hole : Hole) (arguments : List Value) (o : Option Definition)
      → StateKeeps (opened program names state rest place use_of kind hole arguments o)
  opened_keeps rest place use_of kind hole arguments None = inr lasting
  opened_keeps rest place use_of kind hole arguments (Some definition) =
      inr (last_made shape program names n never_used (length definition.parameters) (declared_in program (parts_of definition.body))
      (given_from program names 0 definition.parameters arguments state.world.memory)
      (last_given shape program names n never_used 0 definition.parameters arguments state.world.memory lasting))

  moved_keeps : (rest : List Task) (place : Place) (use_of : Use) (m : Move Run Hole) → MoveKeeps (λ memory. IsLasting shape memory n) (last_stored shape n) (scene_of program state) state.world [] lasting m → StateKeeps (moved program names state rest place use_of m)
  moved_keeps rest place use_of (goes world run) h = inr h
  moved_keeps rest place use_of (calls f arguments kind hole) h = opened_keeps rest place use_of kind hole arguments (definition_of program f)
  moved_keeps rest place use_of (fails cause at) h = inr lasting
  moved_keeps rest place use_of (exits status) h = inr lasting

  expression_keeps : (rest : List Task) (place : Place) (use_of : Use) (run : Run) (other : State) → IsAmong other (expression_steps program names state rest place use_of run) → StateKeeps other
  expression_keeps rest place use_of (done kind result locks) other (inl e) =
      subst StateKeeps (sym e) (turned_keeps (concluded program state.frame.objects rest state.world.memory place use_of result) (conclusion_keeps shape n program names state.frame.objects state.world.memory lasting never_used rest place use_of result))
  expression_keeps rest place use_of (done kind result locks) other (inr e) = absurd e
  expression_keeps rest place use_of (to_do doing kind at members) other e =
      let run = to_do doing kind at members in
      let from = among-map_from (moved program names state rest place use_of) other (moves (scene_of program state) state.world (locks_in run) run) e in
      subst StateKeeps (sym from.2) (moved_keeps rest place use_of from.0 (moves_keep (λ memory. IsLasting shape memory n) (last_stored shape n) (scene_of program state) state.world (locks_in run) lasting run from.0 from.1))

  only_keeps : (t : Turned) → Keeps shape n program names state.frame.objects state.world.memory lasting never_used t → (other : State) → IsAmong other (turned state t ∷ []) → StateKeeps other
  only_keeps t h other (inl e) = subst StateKeeps (sym e) (turned_keeps t h)
  only_keeps t h other (inr e) = absurd e

  task_keeps : (tasks : List Task) (other : State) → IsAmong other (task_steps program names state tasks) → StateKeeps other
  task_keeps [] other (inl e) = subst StateKeeps (sym e) (closed_keeps (is_main (declaration_of program state.frame.function)) (gives_nothing (type_declared program state.frame.function))
      (record state { frame = record state.frame { tasks = hands_back (integer_value Int (pos 0)) ∷ [] } })
      (record state { frame = record state.frame { tasks = hands_back unset ∷ [] } })
      (record state { standing = undefined NoValue (body_place (definition_of program state.frame.function) no_place) })
      (inr lasting) (inr lasting) (inr lasting))
  task_keeps [] other (inr e) = absurd e
  task_keeps (begins tree ∷ rest) other e = only_keeps (begin_statement program names state.frame.objects rest state.world.memory tree) (statement_keeps shape n program names state.frame.objects state.world.memory lasting never_used rest (unlabelled tree)) other e
  task_keeps (declares declarator trees ∷ rest) other e = only_keeps (begin_declarator program state.frame.objects rest state.world.memory declarator trees) (inr lasting) other e
  task_keeps (initials at kind initialiser trees ∷ rest) other e =
      only_keeps (begin_initialiser program state.frame.objects rest state.world.memory at kind initialiser trees) (initialiser_keeps shape n program names state.frame.objects state.world.memory lasting never_used rest at kind initialiser trees) other e
  task_keeps (evaluating place run use_of ∷ rest) other e = expression_keeps rest place use_of run other e
  task_keeps (again saved loop ∷ rest) other e = absurd e
  task_keeps (tests saved loop ∷ rest) other e = absurd e
  task_keeps (ends saved ∷ rest) other e = only_keeps (ended saved state.frame.objects rest state.world.memory) (ended_keeps shape n program names state.frame.objects state.world.memory lasting never_used saved rest) other e
  task_keeps (ends_switch saved ∷ rest) other e = only_keeps (ended saved state.frame.objects rest state.world.memory) (ended_keeps shape n program names state.frame.objects state.world.memory lasting never_used saved rest) other e
  task_keeps (leaves ∷ rest) other e = only_keeps (after_break state.frame.objects state.world.memory rest) (break_keeps shape n program names state.frame.objects state.world.memory lasting never_used rest) other e
  task_keeps (skips ∷ rest) other e = only_keeps (after_continue state.frame.objects state.world.memory rest) (continue_keeps shape n program names state.frame.objects state.world.memory lasting never_used rest) other e
  task_keeps (hands_back value ∷ rest) other (inl e) = subst StateKeeps (sym e) (back_keeps value state.callers)
  task_keeps (hands_back value ∷ rest) other (inr e) = absurd e

-- A step leaves each object as it is but for what it holds, unless it is one of the frame that is running.
pub step_lasts : (shape : Block) (program : Program) (state other : State) → Step program state other → (n : ℕ) → IsLasting shape state.world.memory n
    → IsAmong n (numbers_of state.frame.objects) ⊎ IsLasting shape other.world.memory n
step_lasts shape program state other step n lasting =
    task_keeps shape n program step.0 state step.1 lasting (unfolded state.frame.tasks) other (from_steps state.standing _ other step.2).1
