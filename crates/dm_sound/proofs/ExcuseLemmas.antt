-- A step of a typed state has the cause `type` only by what memory holds.
use Rattle.std.specs.Prelude.{◌≡◌, refl, ℕ, Bool, true, false, List, [], ◌∷◌, ◌++◌, Option, Some, None, pos, if◌then◌else◌}
use Rattle.std.proofs.Common.{ap, sym, ◌∙◌, subst, inl, inr}
use Rattle.dm_token.specs.declared.place.Place.{Place}
use Rattle.dm_int.specs.declared.Kind.TheVariants.{Int}
use Rattle.dm_type.specs.CTypes.{CType, bare}
use Rattle.dm_tree.specs.Trees.{Label, full, if_statement, switch, while_loop, do_loop, for_loop, return, Tree, node, listed, Initialiser, one_expression, in_braces}
use Rattle.dm_tree.specs.Typing.{IsCondition}
use Rattle.dm_meaning.specs.declared.cause.Cause.{Cause}
use Rattle.dm_meaning.specs.declared.cause.Cause.TheVariants.{NoValue, OtherType}
use Rattle.dm_meaning.specs.Among.{IsAmong}
use Rattle.dm_meaning.specs.Machines.{going, exited, undefined}
use Rattle.dm_meaning.specs.Values.{At, Value, integer_value, unset}
use Rattle.dm_meaning.specs.Objects.{Layout}
use Rattle.dm_meaning.specs.Memory.{Memory, written}
use Rattle.dm_meaning.specs.Programs.{Program, Definition, layout, declaration_of, definition_of}
use Rattle.dm_meaning.specs.Operations.{Result, Objects, Truth, holds, untold, truth_of}
use Rattle.dm_meaning.specs.Running.{Run, done, to_do, begun, locks_in, Hole}
use Rattle.dm_meaning.specs.Expressions.{Move, goes, calls, fails, exits, by_truth, value_of, moves}
use Rattle.dm_meaning.specs.States.{Use, drops, chooses, selects, repeats, continues, returns, initialises, Task, begins, declares, initials, evaluates, again, tests, ends, ends_switch, leaves, skips, hands_back, Caller, State}
use Rattle.dm_meaning.specs.Statements.{Turned, onward, refused, type_declared, items_tasks, unlabelled, returning, begin_form, begin_tree, begin_statement, begin_declarator, begin_initialiser, initial_value, selected_by, by_test, begins_one, concluded, unfolded, ended, after_break, after_continue}
use Rattle.dm_meaning.specs.Steps.{opened, status_of, lacks_value, gone_back, handed_back, is_main, gives_nothing, body_place, no_place, closed, turned, moved, scene_of, expression_steps, task_steps, Step}
use Rattle.dm_meaning.proofs.AmongLemmas.{among-map_from}
use Rattle.dm_meaning.proofs.FormLemmas.{one_tree_has, first_tree_has, option_tree_has, if_tree_has}
use Rattle.dm_meaning.proofs.StateLemmas.{from_steps}
use Rattle.dm_sound.specs.Excuses.{results_in, IsExcused, IsExcusedMove, results_at, IsExcusedStep, HandsBackValues}
use Rattle.dm_sound.specs.TypedSteps.{IsResult}
use Rattle.dm_sound.specs.TypedRuns.{IsTypedProgram, MoveFits, result_of}
use Rattle.dm_sound.specs.TypedStates.{TaskFits, TasksFit, AreTypedCallers, IsTypedState}
use Rattle.dm_sound.specs.TypedValues.{IsGiven}
use Rattle.dm_sound.proofs.FailLemmas.{truth_excused, moves_excused}
use Rattle.dm_sound.proofs.RunLemmas.{moves_fit}
use Rattle.dm_sound.proofs.TaskLemmas.{unfolded_fit, given_back}

-- ---- steps that go on

-- a step goes on
abbrev pub IsOnward : Turned → Type 0
IsOnward (onward objects tasks memory) = Unit {0}
IsOnward (refused cause place) = ⊥

module _ (program : Program) (names : ℕ → ℕ) (objects : Objects) (rest : List Task) (memory : Memory) where
  return_on : (o : Option Tree) → IsOnward (returning objects memory o)
  return_on None = tt
  return_on (Some tree) = tt

  form_on : (label : Label) (trees : List Tree) → IsOnward (begin_form program names objects rest memory label trees)
  form_on full trees = one_tree_has IsOnward trees _ _ (λ x. tt) tt
  form_on if_statement trees = first_tree_has IsOnward trees _ _ (λ x xs. first_tree_has IsOnward xs _ _ (λ y ys. option_tree_has IsOnward ys _ _ (λ z. tt) tt) tt) tt
  form_on switch trees = first_tree_has IsOnward trees _ _ (λ x xs. tt) tt
  form_on while_loop trees = first_tree_has IsOnward trees _ _ (λ x xs. one_tree_has IsOnward xs _ _ (λ y. tt) tt) tt
  form_on do_loop trees = first_tree_has IsOnward trees _ _ (λ x xs. one_tree_has IsOnward xs _ _ (λ y. tt) tt) tt
  form_on (for_loop first second third) trees = if_tree_has IsOnward first trees _ _ (λ x xs. if_tree_has IsOnward second xs _ _ (λ y ys. if_tree_has IsOnward third ys _ _ (λ z zs. one_tree_has IsOnward zs _ _ (λ body. tt) tt) tt) tt) tt
  form_on return trees = option_tree_has IsOnward trees _ _ return_on tt
  form_on label trees = tt

  pub tree_on : (tree : Tree) → IsOnward (begin_tree program names objects rest memory tree)
  tree_on (node label kind spans parts) = form_on label (listed parts)

  pub initialiser_on : (at : At) (kind : CType) (initialiser : Initialiser) (trees : List Tree) → IsOnward (begin_initialiser program objects rest memory at kind initialiser trees)
  initialiser_on at kind one_expression trees = one_tree_has IsOnward trees _ _ (λ x. tt) tt
  initialiser_on at kind (in_braces items) trees = tt

pub break_on : (objects : Objects) (memory : Memory) (tasks : List Task) → IsOnward (after_break objects memory tasks)
break_on objects memory [] = tt
break_on objects memory (again saved loop ∷ tasks) = tt
break_on objects memory (ends_switch saved ∷ tasks) = tt
break_on objects memory (task ∷ tasks) = break_on objects memory tasks

pub continue_on : (objects : Objects) (memory : Memory) (tasks : List Task) → IsOnward (after_continue objects memory tasks)
continue_on objects memory [] = tt
continue_on objects memory (again saved loop ∷ tasks) = tt
continue_on objects memory (task ∷ tasks) = continue_on objects memory tasks

-- ---- causes

pub cause_is : (a b : Cause) (p q : Place) → undefined a p ≡ undefined b q → a ≡ b
cause_is a b p q e = cc

pub going_apart : (cause : Cause) (place : Place) → going ≡ undefined cause place → ⊥
going_apart cause place e = cc

pub exited_apart : (status : ℕ) (cause : Cause) (place : Place) → exited status ≡ undefined cause place → ⊥
exited_apart status cause place e = cc

value_apart : NoValue ≡ OtherType → ⊥
value_apart e = cc

nothing_excused : (laid : Layout) (memory : Memory) → IsExcused laid memory [] → ⊥
nothing_excused laid memory (inl m) = m.there
nothing_excused laid memory (inr (inl f)) = f.first
nothing_excused laid memory (inr (inr n)) = n.there

module _ (program : Program) (sound : IsTypedProgram program) (state : State) (t : IsTypedState program state) (goes_on : state.standing ≡ going) where
  abbrev memory : Memory
  memory = state.world.memory

  abbrev result : CType
  result = bare (result_of program state.frame.function)

  -- a state is undefined with the cause `type`
  abbrev IsOther : State → Type 0
  IsOther other = (place : Place) × (other.standing ≡ undefined OtherType place)

  stays_going : (other : State) → other.standing ≡ state.standing → IsOther other → ⊥
  stays_going other same (place, e) = going_apart OtherType place (sym goes_on ∙ sym same ∙ e)

  onward_apart : (turn : Turned) → IsOnward turn → IsOther (turned state turn) → ⊥
  onward_apart (onward objects tasks after) h o = stays_going (turned state (onward objects tasks after)) refl o
  onward_apart (refused cause place) h o = h

  closed_apart : IsOther (closed program state) → ⊥
  closed_apart = by_main (is_main (declaration_of program state.frame.function))
    where
      nothing : State
      nothing = record state { standing = undefined NoValue (body_place (definition_of program state.frame.function) no_place) }

      by_nothing : (b : Bool) → IsOther (if b then record state { frame = record state.frame { tasks = hands_back unset ∷ [] } } else nothing) → ⊥
      by_nothing true o = stays_going (record state { frame = record state.frame { tasks = hands_back unset ∷ [] } }) refl o
      by_nothing false (place, e) = value_apart (cause_is NoValue OtherType _ place e)

      by_main : (b : Bool) → IsOther (if b then record state { frame = record state.frame { tasks = hands_back (integer_value Int (pos 0)) ∷ [] } }
          else (if gives_nothing (type_declared program state.frame.function) then record state { frame = record state.frame { tasks = hands_back unset ∷ [] } } else nothing)) → ⊥
      by_main true o = stays_going (record state { frame = record state.frame { tasks = hands_back (integer_value Int (pos 0)) ∷ [] } }) refl o
      by_main false o = by_nothing (gives_nothing (type_declared program state.frame.function)) o

  back_apart : (value : Value) (callers : List Caller) → IsOther (handed_back state value callers) → ⊥
  back_apart value [] (place, e) = exited_apart (status_of value) OtherType place e
  back_apart value (caller ∷ callers) o = by_lack (lacks_value caller.kind value) o
    where
      by_lack : (b : Bool) → IsOther (if b then record state { standing = undefined NoValue caller.place } else gone_back state value caller callers) → ⊥
      by_lack true (place, e) = value_apart (cause_is NoValue OtherType caller.place place e)
      by_lack false o' = stays_going (gone_back state value caller callers) refl o'

  -- ---- the end of a full expression

  module _ (names : ℕ → ℕ) where
    tested_apart : (place : Place) (truth : Truth) (following : Bool → Turned) → ((cause : Cause) → truth ≡ untold cause → cause ≡ OtherType → ⊥) → ((b : Bool) → IsOnward (following b)) → IsOther (turned state (by_test place truth following)) → ⊥
    tested_apart place (holds b) following never h o = onward_apart (following b) (h b) o
    tested_apart place (untold cause) following never h (there, e) = never cause refl (cause_is cause OtherType place there e)

    truth_apart : (tree : Tree) (given : Result) → IsResult (layout program) tree given → IsCondition tree → (cause : Cause) → truth_of memory (value_of given) ≡ untold cause → cause ≡ OtherType → ⊥
    truth_apart tree given h c cause e f =
        nothing_excused (layout program) memory
        (subst (λ (truth : Truth). IsExcusedMove (layout program) memory [] (by_truth state.world no_place truth (λ b. begun tree))) e (truth_excused (scene_of program state) sound state.world t.world [] result [] no_place tree given h c.0 c.1 (λ b. begun tree)) f)

    concluded_apart : (rest : List Task) (place : Place) (use_of : Use) (kind : CType) (given : Result) (locks : List At) → TaskFits program memory result (evaluates place (done kind given locks) use_of)
        → IsOther (turned state (concluded program state.frame.objects rest memory place use_of given)) → ⊥
    concluded_apart rest place drops kind given locks h o = onward_apart (onward state.frame.objects rest memory) tt o
    concluded_apart rest place (chooses first second) kind given locks h o =
        tested_apart place (truth_of memory (value_of given)) (λ truth. onward state.frame.objects (begins_one (if truth then Some first else second) ++ rest) memory) (truth_apart h.0 given h.2.1 h.3.2) (λ b. tt) o
    concluded_apart rest place (selects items) kind given locks h o = onward_apart (onward state.frame.objects (items_tasks (selected_by program (value_of given) items) ++ rest) memory) tt o
    concluded_apart rest place (repeats loop) kind given locks h o =
        tested_apart place (truth_of memory (value_of given)) (λ truth. onward state.frame.objects (if truth then begins loop.body ∷ again state.frame.objects loop ∷ rest else rest) memory) (truth_apart h.0 given h.2.1 h.3.1) (λ b. tt) o
    concluded_apart rest place (continues loop) kind given locks h o = onward_apart (onward state.frame.objects (tests state.frame.objects loop ∷ rest) memory) tt o
    concluded_apart rest place returns kind given locks h o = onward_apart (onward state.frame.objects (hands_back (value_of given) ∷ []) memory) tt o
    concluded_apart rest place (initialises at type) kind given locks h o = onward_apart (onward state.frame.objects rest (written memory at (initial_value type given))) tt o

    -- ---- all steps

    moved_excused : (rest : List Task) (place : Place) (use_of : Use) (tree : Tree) (given : List Result) (m : Move Run Hole) → MoveFits program memory tree m → IsExcusedMove (layout program) memory given m
        → IsOther (moved program names state rest place use_of m) → IsExcused (layout program) memory given
    moved_excused rest place use_of tree given (goes world run) h x o = absurd (stays_going (moved program names state rest place use_of (goes world run)) refl o)
    moved_excused rest place use_of tree given (calls f arguments kind hole) h x o =
        absurd (stays_going (opened program names state rest place use_of kind hole arguments (definition_of program f))
        (ap (λ (d : Option Definition). (opened program names state rest place use_of kind hole arguments d).standing) h.0.defined) o)
    moved_excused rest place use_of tree given (fails cause at) h x (there, e) = x (cause_is cause OtherType at there e)
    moved_excused rest place use_of tree given (exits status) h x (there, e) = absurd (exited_apart status OtherType there e)

    abbrev Excused : List Task → State → Type 0
    Excused tasks other = IsOther other → IsExcused (layout program) memory (results_at tasks)

    alone : (tasks : List Task) (one other : State) → (IsOther one → ⊥) → IsAmong other (one ∷ []) → Excused tasks other
    alone tasks one other never (inl e) o = absurd (never (subst IsOther e o))
    alone tasks one other never (inr e) o = absurd e

    expression_excused : (rest : List Task) (place : Place) (use_of : Use) (run : Run) → TaskFits program memory result (evaluates place run use_of) → (other : State) → IsAmong other (expression_steps program names state rest place use_of run)
        → Excused (evaluates place run use_of ∷ rest) other
    expression_excused rest place use_of (done kind given locks) h other e =
        alone (evaluates place (done kind given locks) use_of ∷ rest) (turned state (concluded program state.frame.objects rest memory place use_of given)) other (concluded_apart rest place use_of kind given locks h) e
    expression_excused rest place use_of (to_do doing kind at members) h other e = λ o.
        let run = to_do doing kind at members in
        let from = among-map_from (moved program names state rest place use_of) other (moves (scene_of program state) state.world (locks_in run) run) e in
        moved_excused rest place use_of h.0 (results_in run) from.0
        (moves_fit (scene_of program state) sound state.world t.world (locks_in run) result run h.0 h.1 h.2 from.0 from.1)
        (moves_excused (scene_of program state) sound state.world t.world (locks_in run) result run h.0 h.1 h.4 h.2 from.0 from.1) (subst IsOther from.2 o)

    task_excused : (tasks : List Task) → TasksFit program memory result tasks → (other : State) → IsAmong other (task_steps program names state tasks) → Excused tasks other
    task_excused [] h other e = alone [] (closed program state) other closed_apart e
    task_excused (begins tree ∷ rest) h other e =
        alone (begins tree ∷ rest) _ other (onward_apart (begin_statement program names state.frame.objects rest memory tree) (tree_on program names state.frame.objects rest memory (unlabelled tree))) e
    task_excused (declares declarator trees ∷ rest) h other e =
        alone (declares declarator trees ∷ rest) _ other (onward_apart (begin_declarator program state.frame.objects rest memory declarator trees) tt) e
    task_excused (initials at kind initialiser trees ∷ rest) h other e =
        alone (initials at kind initialiser trees ∷ rest) _ other
        (onward_apart (begin_initialiser program state.frame.objects rest memory at kind initialiser trees) (initialiser_on program names state.frame.objects rest memory at kind initialiser trees)) e
    task_excused (evaluates place run use_of ∷ rest) h other e = expression_excused rest place use_of run h.0 other e
    task_excused (again saved loop ∷ rest) h other e = absurd e
    task_excused (tests saved loop ∷ rest) h other e = absurd e
    task_excused (ends saved ∷ rest) h other e = alone (ends saved ∷ rest) _ other (onward_apart (ended saved state.frame.objects rest memory) tt) e
    task_excused (ends_switch saved ∷ rest) h other e = alone (ends_switch saved ∷ rest) _ other (onward_apart (ended saved state.frame.objects rest memory) tt) e
    task_excused (leaves ∷ rest) h other e = alone (leaves ∷ rest) _ other (onward_apart (after_break state.frame.objects memory rest) (break_on state.frame.objects memory rest)) e
    task_excused (skips ∷ rest) h other e = alone (skips ∷ rest) _ other (onward_apart (after_continue state.frame.objects memory rest) (continue_on state.frame.objects memory rest)) e
    task_excused (hands_back value ∷ rest) h other e = alone (hands_back value ∷ rest) (handed_back state value state.callers) other (back_apart value state.callers) e

pub step_excused : (program : Program) → IsTypedProgram program → (state other : State) → IsTypedState program state → Step program state other → IsExcusedStep program state other
step_excused program sound state other t step place e =
    let from = from_steps state.standing _ other step.2 in
    task_excused program sound state t from.0 step.0 (unfolded state.frame.tasks)
    (unfolded_fit program (bare (result_of program state.frame.function)) state.world.memory state.frame.tasks t.frame.tasks) other from.1 (place, e)

-- ---- returns

-- no call lacks a value that it needs
pub hands_back_values : (program : Program) (state : State) → IsTypedState program state → HandsBackValues state
hands_back_values program state t value rest caller callers e c h =
    let f = state.frame.function in
    let now = state.world.memory in
    let tasks = subst (TasksFit program now (bare (result_of program f))) e t.frame.tasks in
    let waits = subst (AreTypedCallers program now f) c t.callers in
    let back = given_back (layout program) (result_of program f) waits.0.result waits.0.covered value tasks.0 in
    (subst (λ (type : CType). IsGiven (layout program) type value) (sym waits.0.gives) back).set h
