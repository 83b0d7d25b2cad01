-- A step ends the lifetime of no object but those of the frame that is running.
use Rattle.std.specs.Prelude.{◌≡◌, refl, ◌⊎◌, ℕ, zero, suc, ◌-◌, ◌==◌, Bool, true, false, List, [], ◌∷◌, map, length, take, Option, Some, None, option_map, pos, if◌then◌else◌}
use Rattle.std.proofs.Common.{arith, ap, sym, ◌∙◌, subst, inl, inr}
use Rattle.dm_token.specs.declared.place.Place.{Place}
use Rattle.dm_int.specs.declared.Kind.TheVariants.{Int}
use Rattle.dm_type.specs.CTypes.{CType}
use Rattle.dm_tree.specs.Trees.{Label, block as block_form, for_loop, full, if_statement, switch, while_loop, do_loop, break, continue, return, Tree, node, listed, parts_of, Initialiser, one_expression, in_braces}
use Rattle.dm_meaning.specs.declared.cause.Cause.TheVariants.{NoValue}
use Rattle.dm_meaning.specs.Among.{IsAmong}
use Rattle.dm_meaning.specs.Machines.{undefined}
use Rattle.dm_meaning.specs.Values.{Name, numbered, literal_of, elsewhere, Path, At, Value, integer_value, unset, with_part}
use Rattle.dm_meaning.specs.Memory.{Memory, Block, look_up, changed_block, written, killed, IsFresh}
use Rattle.dm_meaning.specs.Primitives.{Prim}
use Rattle.dm_meaning.specs.Programs.{Program, Definition, declaration_of, definition_of}
use Rattle.dm_meaning.specs.Operations.{Result, Objects, Truth, holds, untold, truth_of}
use Rattle.dm_meaning.specs.Running.{Run, done, to_do, locks_in, Hole}
use Rattle.dm_meaning.specs.Expressions.{Move, goes, calls, fails, exits, value_of, moves}
use Rattle.dm_meaning.specs.States.{Use, drops, chooses, selects, repeats, continues, returns, initialises, Task, begins, declares, initials, evaluates as evaluating, again, tests, ends, ends_switch, leaves, skips, hands_back, Caller, State}
use Rattle.dm_meaning.specs.Statements.{Turned, onward, refused, type_declared, made_from, named_since, declared_in, as_list, returning, begin_form, begin_tree, begin_statement, unlabelled, begin_declarator, begin_initialiser, by_test, concluded, unfolded, ended, after_break, after_continue}
use Rattle.dm_meaning.specs.Steps.{given_from, opened, lacks_value, gone_back, handed_back, is_main, gives_nothing, body_place, no_place, turned, moved, scene_of, expression_steps, task_steps, Step}
use Rattle.dm_meaning.specs.Lifetimes.{IsAlive, numbers_of}
use Rattle.dm_meaning.proofs.AmongLemmas.{among-map_from}
use Rattle.dm_meaning.proofs.FormLemmas.{one_tree_has, first_tree_has, option_tree_has, if_tree_has}
use Rattle.dm_meaning.proofs.ExtendLemmas.{look_changed}
use Rattle.dm_meaning.proofs.StateLemmas.{from_steps}
use Rattle.dm_meaning.proofs.StoreLemmas.{MoveKeeps, moves_keep}

-- ---- memory

-- a change that leaves lifetimes alone
alive_if : (b : Bool) (change : Block → Block) (block : Block) → ((x : Block) → (change x).alive ≡ x.alive) → block.alive ≡ true → (if b then change block else block).alive ≡ true
alive_if true change block h e = h block ∙ e
alive_if false change block h e = e

alive_changed : (m : ℕ) (change : Block → Block) (memory : Memory) (n : ℕ) → ((x : Block) → (change x).alive ≡ x.alive) → IsAlive memory n → IsAlive (changed_block m change memory) n
alive_changed m change memory n h a = record {
  block = if n == m then change a.block else a.block;
  found = look_changed m change memory n ∙ ap (option_map (λ block. if n == m then change block else block)) a.found;
  alive = alive_if (n == m) change a.block h a.alive;
}

alive_written : (name : Name) (path : Path) (value : Value) (memory : Memory) (n : ℕ) → IsAlive memory n → IsAlive (written memory (record { name = name; path = path }) value) n
alive_written (numbered m) path value memory n a = alive_changed m (λ block. record block { contents = with_part path value block.contents }) memory n (λ x. refl) a
alive_written (literal_of bytes unit) path value memory n a = a
alive_written (elsewhere identifier) path value memory n a = a

-- an object with another name is added
not_equal : (m n : ℕ) → (m ≡ n → ⊥) → (m == n) ≡ false
not_equal m n h = by_case (m == n) refl
  where
    equal_of : (a b : ℕ) → (a == b) ≡ true → a ≡ b
    equal_of a b e = grind arith

    by_case : (b : Bool) → (m == n) ≡ b → b ≡ false
    by_case true e = absurd (h (equal_of m n e))
    by_case false e = refl

alive_added : (m : ℕ) (block : Block) (memory : Memory) (n : ℕ) → (m ≡ n → ⊥) → IsAlive memory n → IsAlive ((m, block) ∷ memory) n
alive_added m block memory n h a = record {
  block = a.block;
  found = ap (λ b. if b then Some block else look_up memory n) (not_equal m n h) ∙ a.found;
  alive = a.alive;
}

alive_made : (program : Program) (names : ℕ → ℕ) (n : ℕ) → ((i : ℕ) → names i ≡ n → ⊥) → (i : ℕ) (ds : List ℕ) (memory : Memory) → IsAlive memory n → IsAlive (made_from program names i ds memory) n
alive_made program names n new i [] memory a = a
alive_made program names n new i (d ∷ ds) memory a = alive_made program names n new (suc i) ds _ (alive_added (names i) _ memory n (new i) a)

alive_given : (program : Program) (names : ℕ → ℕ) (n : ℕ) → ((i : ℕ) → names i ≡ n → ⊥) → (i : ℕ) (ds : List ℕ) (values : List Value) (memory : Memory) → IsAlive memory n → IsAlive (given_from program names i ds values memory) n
alive_given program names n new i [] [] memory a = a
alive_given program names n new i [] (value ∷ values) memory a = a
alive_given program names n new i (d ∷ ds) [] memory a = alive_given program names n new (suc i) ds [] _ (alive_added (names i) _ memory n (new i) a)
alive_given program names n new i (d ∷ ds) (value ∷ values) memory a = alive_given program names n new (suc i) ds values _ (alive_added (names i) _ memory n (new i) a)

-- names that were never used are those of no object
new_names : (names : ℕ → ℕ) (memory : Memory) (n : ℕ) → IsFresh names memory → IsAlive memory n → (i : ℕ) → names i ≡ n → ⊥
new_names names memory n fresh a i e = none_some a.block (sym (fresh.1 i) ∙ ap (look_up memory) e ∙ a.found)
  where
    none_some : (block : Block) → None ≡ Some block → ⊥
    none_some block e = cc

alive_stored : (n : ℕ) (at : At) (value : Value) (memory : Memory) → IsAlive memory n → IsAlive (written memory at value) n
alive_stored n at value memory a = alive_written at.name at.path value memory n a

-- a lifetime ends
alive_killed : (ns : List ℕ) (memory : Memory) (n : ℕ) → IsAlive memory n → IsAmong n ns ⊎ IsAlive (killed ns memory) n
alive_killed [] memory n a = inr a
alive_killed (m ∷ ns) memory n a = by_case (n == m) refl (λ b. alive_killed ns (changed_block m (λ x. record x { alive = false }) memory) n b)
  where
    equal_of : (x y : ℕ) → (x == y) ≡ true → x ≡ y
    equal_of x y e = grind arith

    end : Block → Block
    end x = record x { alive = false }

    later : IsAmong n ns ⊎ IsAlive (killed ns (changed_block m end memory)) n → IsAmong n (m ∷ ns) ⊎ IsAlive (killed ns (changed_block m end memory)) n
    later (inl h) = inl (inr h)
    later (inr h) = inr h

    by_case : (b : Bool) → (n == m) ≡ b → (IsAlive (changed_block m end memory) n → IsAmong n ns ⊎ IsAlive (killed ns (changed_block m end memory)) n)
        → IsAmong n (m ∷ ns) ⊎ IsAlive (killed ns (changed_block m end memory)) n
    by_case true e rest = inl (inl (equal_of n m e))
    by_case false e rest =
        later (rest (record {
          block = a.block;
          found = look_changed m end memory n ∙ ap (option_map (λ x. if n == m then end x else x)) a.found ∙ ap (λ b. Some (if b then end a.block else a.block)) e;
          alive = a.alive;
        }))

among_taken : (n : ℕ) (i : ℕ) (objects : Objects) → IsAmong n (map (λ entry. entry.1) (take i objects)) → IsAmong n (numbers_of objects)
among_taken n zero objects h = absurd h
among_taken n (suc i) [] h = absurd h
among_taken n (suc i) (entry ∷ entries) (inl e) = inl e
among_taken n (suc i) (entry ∷ entries) (inr h) = inr (among_taken n i entries h)

-- ---- statements

module _ (n : ℕ) (program : Program) (names : ℕ → ℕ) (objects : Objects) (memory : Memory) (alive : IsAlive memory n) (new : (i : ℕ) → names i ≡ n → ⊥) where
  -- the object is one of the frame, or still alive
  abbrev Keeps : Turned → Type 0
  Keeps (onward others tasks after) = IsAmong n (numbers_of objects) ⊎ IsAlive after n
  Keeps (refused cause place) = Unit {0}

  returning_keeps : (o : Option Tree) → Keeps (returning objects memory o)
  returning_keeps None = inr alive
  returning_keeps (Some tree) = inr alive

  begin_keeps : (rest : List Task) (label : Label) (trees : List Tree) → Keeps (begin_form program names objects rest memory label trees)
  begin_keeps rest block_form trees = inr (alive_made program names n new 0 (declared_in program trees) memory alive)
  begin_keeps rest full trees = one_tree_has Keeps trees _ _ (λ x. inr alive) (inr alive)
  begin_keeps rest if_statement trees =
      first_tree_has Keeps trees _ _ (λ x xs. first_tree_has Keeps xs _ _ (λ y ys. option_tree_has Keeps ys _ _ (λ z. inr alive) (inr alive)) (inr alive)) (inr alive)
  begin_keeps rest switch trees = first_tree_has Keeps trees _ _ (λ x xs. inr alive) (inr alive)
  begin_keeps rest while_loop trees = first_tree_has Keeps trees _ _ (λ x xs. one_tree_has Keeps xs _ _ (λ y. inr alive) (inr alive)) (inr alive)
  begin_keeps rest do_loop trees = first_tree_has Keeps trees _ _ (λ x xs. one_tree_has Keeps xs _ _ (λ y. inr alive) (inr alive)) (inr alive)
  begin_keeps rest (for_loop first second third) trees =
      if_tree_has Keeps first trees _ _
      (λ x xs. if_tree_has Keeps second xs _ _
      (λ y ys. if_tree_has Keeps third ys _ _
      (λ z zs. one_tree_has Keeps zs _ _ (λ b. inr (alive_made program names n new 0 (declared_in program (as_list x)) memory alive)) (inr alive))
      (inr alive))
      (inr alive))
      (inr alive)
  begin_keeps rest break trees = inr alive
  begin_keeps rest continue trees = inr alive
  begin_keeps rest return trees = option_tree_has Keeps trees (returning objects memory) _ returning_keeps (inr alive)
  begin_keeps rest label trees = inr alive

  statement_keeps : (rest : List Task) (tree : Tree) → Keeps (begin_tree program names objects rest memory tree)
  statement_keeps rest (node label kind spans trees) = begin_keeps rest label (listed trees)

  initialiser_keeps : (rest : List Task) (at : At) (kind : CType) (initialiser : Initialiser) (trees : List Tree) → Keeps (begin_initialiser program objects rest memory at kind initialiser trees)
  initialiser_keeps rest at kind one_expression trees = one_tree_has Keeps trees _ _ (λ x. inr alive) (inr alive)
  initialiser_keeps rest at kind (in_braces items) trees = inr (alive_written at.name at.path _ memory n alive)

  test_keeps : (place : Place) (truth : Truth) (following : Bool → Turned) → ((b : Bool) → Keeps (following b)) → Keeps (by_test place truth following)
  test_keeps place (holds b) following h = h b
  test_keeps place (untold cause) following h = tt

  conclusion_keeps : (rest : List Task) (place : Place) (use_of : Use) (result : Result) → Keeps (concluded program objects rest memory place use_of result)
  conclusion_keeps rest place drops result = inr alive
  conclusion_keeps rest place (chooses first second) result = test_keeps place (truth_of memory (value_of result)) _ (λ b. inr alive)
  conclusion_keeps rest place (selects items) result = inr alive
  conclusion_keeps rest place (repeats loop) result = test_keeps place (truth_of memory (value_of result)) _ (λ b. inr alive)
  conclusion_keeps rest place (continues loop) result = inr alive
  conclusion_keeps rest place returns result = inr alive
  conclusion_keeps rest place (initialises at kind) result = inr (alive_written at.name at.path _ memory n alive)

  ended_keeps : (saved : Objects) (rest : List Task) → Keeps (ended saved objects rest memory)
  ended_keeps saved rest = pick (alive_killed (named_since saved objects) memory n alive)
    where
      pick : IsAmong n (named_since saved objects) ⊎ IsAlive (killed (named_since saved objects) memory) n → IsAmong n (numbers_of objects) ⊎ IsAlive (killed (named_since saved objects) memory) n
      pick (inl h) = inl (among_taken n (length objects - length saved) objects h)
      pick (inr h) = inr h

  break_keeps : (tasks : List Task) → Keeps (after_break objects memory tasks)
  break_keeps [] = inr alive
  break_keeps (again saved loop ∷ rest) = ended_keeps saved rest
  break_keeps (ends_switch saved ∷ rest) = ended_keeps saved (ends_switch saved ∷ rest)
  break_keeps (task ∷ rest) = break_keeps rest

  continue_keeps : (tasks : List Task) → Keeps (after_continue objects memory tasks)
  continue_keeps [] = inr alive
  continue_keeps (again saved loop ∷ rest) = ended_keeps saved (again saved loop ∷ rest)
  continue_keeps (task ∷ rest) = continue_keeps rest

-- ---- states

module _ (n : ℕ) (program : Program) (names : ℕ → ℕ) (state : State) (fresh : IsFresh names state.world.memory) (alive : IsAlive state.world.memory n) where
  abbrev StateKeeps : State → Type 0
  StateKeeps other = IsAmong n (numbers_of state.frame.objects) ⊎ IsAlive other.world.memory n

  never_used : (i : ℕ) → names i ≡ n → ⊥
  never_used = new_names names state.world.memory n fresh alive

  turned_keeps : (t : Turned) → Keeps n program names state.frame.objects state.world.memory alive never_used t → StateKeeps (turned state t)
  turned_keeps (onward objects tasks memory) h = h
  turned_keeps (refused cause place) h = inr alive

  closed_keeps : (a b : Bool) (x y : State) (z : State) → StateKeeps x → StateKeeps y → StateKeeps z → StateKeeps (if a then x else if b then y else z)
  closed_keeps true b x y z h k l = h
  closed_keeps false true x y z h k l = k
  closed_keeps false false x y z h k l = l

  back_keeps : (value : Value) (callers : List Caller) → StateKeeps (handed_back state value callers)
  back_keeps value [] = inr alive
  back_keeps value (caller ∷ callers) = by_lack (lacks_value caller.kind value)
    where
      by_lack : (b : Bool) → StateKeeps (if b then record state { standing = undefined NoValue caller.place } else gone_back state value caller callers)
      by_lack true = inr alive
      by_lack false = alive_killed (numbers_of state.frame.objects) state.world.memory n alive

  opened_keeps : (rest : List Task) (place : Place) (use_of : Use) (kind : CType) (hole : Hole) (arguments : List Value) (o : Option Definition)
      → StateKeeps (opened program names state rest place use_of kind hole arguments o)
  opened_keeps rest place use_of kind hole arguments None = inr alive
  opened_keeps rest place use_of kind hole arguments (Some definition) =
      inr (alive_made program names n never_used (length definition.parameters) (declared_in program (parts_of definition.body))
      (given_from program names 0 definition.parameters arguments state.world.memory)
      (alive_given program names n never_used 0 definition.parameters arguments state.world.memory alive))

  moved_keeps : (rest : List Task) (place : Place) (use_of : Use) (m : Move Run Hole) → MoveKeeps (λ memory. IsAlive memory n) (alive_stored n) (scene_of program state) state.world [] alive m → StateKeeps (moved program names state rest place use_of m)
  moved_keeps rest place use_of (goes world run) h = inr h
  moved_keeps rest place use_of (calls f arguments kind hole) h = opened_keeps rest place use_of kind hole arguments (definition_of program f)
  moved_keeps rest place use_of (fails cause at) h = inr alive
  moved_keeps rest place use_of (exits status) h = inr alive

  expression_keeps : (rest : List Task) (place : Place) (use_of : Use) (run : Run) (other : State) → IsAmong other (expression_steps program names state rest place use_of run) → StateKeeps other
  expression_keeps rest place use_of (done kind result locks) other (inl e) =
      subst StateKeeps (sym e) (turned_keeps (concluded program state.frame.objects rest state.world.memory place use_of result) (conclusion_keeps n program names state.frame.objects state.world.memory alive never_used rest place use_of result))
  expression_keeps rest place use_of (done kind result locks) other (inr e) = absurd e
  expression_keeps rest place use_of (to_do doing kind at members) other e =
      let run = to_do doing kind at members in
      let from = among-map_from (moved program names state rest place use_of) other (moves (scene_of program state) state.world (locks_in run) run) e in
      subst StateKeeps (sym from.2) (moved_keeps rest place use_of from.0 (moves_keep (λ memory. IsAlive memory n) (alive_stored n) (scene_of program state) state.world (locks_in run) alive run from.0 from.1))

  only_keeps : (t : Turned) → Keeps n program names state.frame.objects state.world.memory alive never_used t → (other : State) → IsAmong other (turned state t ∷ []) → StateKeeps other
  only_keeps t h other (inl e) = subst StateKeeps (sym e) (turned_keeps t h)
  only_keeps t h other (inr e) = absurd e

  task_keeps : (tasks : List Task) (other : State) → IsAmong other (task_steps program names state tasks) → StateKeeps other
  task_keeps [] other (inl e) = subst StateKeeps (sym e) (closed_keeps (is_main (declaration_of program state.frame.function)) (gives_nothing (type_declared program state.frame.function))
      (record state { frame = record state.frame { tasks = hands_back (integer_value Int (pos 0)) ∷ [] } })
      (record state { frame = record state.frame { tasks = hands_back unset ∷ [] } })
      (record state { standing = undefined NoValue (body_place (definition_of program state.frame.function) no_place) })
      (inr alive) (inr alive) (inr alive))
  task_keeps [] other (inr e) = absurd e
  task_keeps (begins tree ∷ rest) other e = only_keeps (begin_statement program names state.frame.objects rest state.world.memory tree) (statement_keeps n program names state.frame.objects state.world.memory alive never_used rest (unlabelled tree)) other e
  task_keeps (declares declarator trees ∷ rest) other e = only_keeps (begin_declarator program state.frame.objects rest state.world.memory declarator trees) (inr alive) other e
  task_keeps (initials at kind initialiser trees ∷ rest) other e =
      only_keeps (begin_initialiser program state.frame.objects rest state.world.memory at kind initialiser trees) (initialiser_keeps n program names state.frame.objects state.world.memory alive never_used rest at kind initialiser trees) other e
  task_keeps (evaluating place run use_of ∷ rest) other e = expression_keeps rest place use_of run other e
  task_keeps (again saved loop ∷ rest) other e = absurd e
  task_keeps (tests saved loop ∷ rest) other e = absurd e
  task_keeps (ends saved ∷ rest) other e = only_keeps (ended saved state.frame.objects rest state.world.memory) (ended_keeps n program names state.frame.objects state.world.memory alive never_used saved rest) other e
  task_keeps (ends_switch saved ∷ rest) other e = only_keeps (ended saved state.frame.objects rest state.world.memory) (ended_keeps n program names state.frame.objects state.world.memory alive never_used saved rest) other e
  task_keeps (leaves ∷ rest) other e = only_keeps (after_break state.frame.objects state.world.memory rest) (break_keeps n program names state.frame.objects state.world.memory alive never_used rest) other e
  task_keeps (skips ∷ rest) other e = only_keeps (after_continue state.frame.objects state.world.memory rest) (continue_keeps n program names state.frame.objects state.world.memory alive never_used rest) other e
  task_keeps (hands_back value ∷ rest) other (inl e) = subst StateKeeps (sym e) (back_keeps value state.callers)
  task_keeps (hands_back value ∷ rest) other (inr e) = absurd e

-- A step ends the lifetime of no object but those of the frame that is running.
pub step_keeps : (program : Program) (state other : State) → Step program state other → (n : ℕ) → IsAlive state.world.memory n
    → IsAmong n (numbers_of state.frame.objects) ⊎ IsAlive other.world.memory n
step_keeps program state other step n alive =
    task_keeps n program step.0 state step.1 alive (unfolded state.frame.tasks) other (from_steps state.standing _ other step.2).1
