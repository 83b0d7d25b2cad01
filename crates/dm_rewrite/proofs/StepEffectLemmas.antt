-- A step of a program writes only in objects that its next task names as written.
use Rattle.std.specs.Prelude.{◌≡◌, refl, ℕ, suc, ◌==◌, Bool, true, false, List, [], ◌∷◌, ◌++◌, map, length, Option, Some, None, option_map, pos, if◌then◌else◌}
use Rattle.std.proofs.Common.{ap, sym, ◌∙◌, subst, inl, inr}
use Rattle.dm_token.specs.declared.place.Place.{Place}
use Rattle.dm_int.specs.declared.Kind.TheVariants.{Int}
use Rattle.dm_type.specs.CTypes.{CType}
use Rattle.dm_tree.specs.Trees.{Label, block as block_form, full, if_statement, switch, while_loop, do_loop, for_loop, break, continue, return, Tree, node, listed, parts_of, Initialiser, one_expression, in_braces}
use Rattle.dm_meaning.specs.declared.cause.Cause.TheVariants.{NoValue}
use Rattle.dm_meaning.specs.Among.{IsAmong}
use Rattle.dm_meaning.specs.Machines.{undefined}
use Rattle.dm_meaning.specs.Memory.{Memory, Block, look_up, new_block, changed_block, written, killed, contents_at, IsFresh}
use Rattle.dm_meaning.specs.Operations.{Result, Objects, Truth, holds, untold, truth_of}
use Rattle.dm_meaning.specs.Programs.{Program, Definition, layout, declaration_of, definition_of}
use Rattle.dm_meaning.specs.Running.{Run, done, to_do, locks_in, Hole}
use Rattle.dm_meaning.specs.Expressions.{Move, goes, calls, fails, exits, value_of, moves}
use Rattle.dm_meaning.specs.States.{Use, drops, chooses, selects, repeats, continues, returns, initialises, Task, begins, declares, initials, evaluates, again, tests, ends, ends_switch, leaves, skips, hands_back, Caller, State}
use Rattle.dm_meaning.specs.Statements.{Turned, onward, refused, type_declared, declared_in, named_since, made_from, as_list, returning, begin_form, begin_tree, begin_statement, unlabelled, begin_declarator, begin_initialiser, value_listed, count_items, initial_value, by_test, concluded, unfolded, ended, after_break, after_continue}
use Rattle.dm_meaning.specs.Steps.{given_from, opened, lacks_value, gone_back, handed_back, is_main, gives_nothing, body_place, no_place, closed, turned, moved, scene_of, expression_steps, task_steps, Step}
use Rattle.dm_meaning.specs.Values.{Name, numbered, literal_of, elsewhere, At, Value, integer_value, unset, with_part}
use Rattle.dm_rewrite.specs.Effects.{on_object, Stage, by_name, effects_of, Writes, IsFree}
use Rattle.dm_rewrite.specs.StepEffects.{stage_of, use_effects, first_effects, next_effects, StillHolds}
use Rattle.dm_meaning.proofs.AmongLemmas.{among_left, among_right, among-map_from}
use Rattle.dm_meaning.proofs.ExtendLemmas.{look_changed}
use Rattle.dm_meaning.proofs.FormLemmas.{one_tree_has, first_tree_has, option_tree_has, if_tree_has}
use Rattle.dm_meaning.proofs.GrowLemmas.{equal_of, look_added}
use Rattle.dm_meaning.proofs.OptionLemmas.{none_is_some}
use Rattle.dm_meaning.proofs.StateLemmas.{from_steps}
use Rattle.dm_rewrite.proofs.EffectLemmas.{step_writes}

module _ (n : ℕ) (block : Block) where
  abbrev Holds : Memory → Type 0
  Holds memory = StillHolds memory n block

  -- ---- memory

  changed_holds : (m : ℕ) (change : Block → Block) (memory : Memory) → ((x : Block) → m ≡ n → (change x).contents ≡ x.contents) → Holds memory
      → Holds (changed_block m change memory)
  changed_holds m change memory c h = record {
    found = if n == m then change h.found else h.found;
    is = look_changed m change memory n ∙ ap (option_map (λ x. if n == m then change x else x)) h.is;
    contents = by_bool (n == m) refl;
  }
    where
      by_bool : (b : Bool) → (n == m) ≡ b → (if b then change h.found else h.found).contents ≡ block.contents
      by_bool true e = c h.found (sym (equal_of n m e)) ∙ h.contents
      by_bool false e = h.contents

  killed_holds : (ns : List ℕ) (memory : Memory) → Holds memory → Holds (killed ns memory)
  killed_holds [] memory h = h
  killed_holds (m ∷ ns) memory h =
      killed_holds ns (changed_block m (λ x. record x { alive = false }) memory) (changed_holds m (λ x. record x { alive = false }) memory (λ x e. refl) h)

  written_holds : (memory : Memory) (at : At) (value : Value) → (at.name ≡ numbered n → ⊥) → Holds memory → Holds (written memory at value)
  written_holds memory at value away h = by_name at.name away
    where
      by_name : (name : Name) → (name ≡ numbered n → ⊥) → Holds (written memory (record { name = name; path = at.path }) value)
      by_name (numbered m) other =
          changed_holds m (λ x. record x { contents = with_part at.path value x.contents }) memory (λ x e. absurd (other (ap numbered e))) h
      by_name (literal_of bytes unit) other = h
      by_name (elsewhere identifier) other = h

  added_holds : (m : ℕ) (new : Block) (memory : Memory) → (m ≡ n → ⊥) → Holds memory → Holds ((m, new) ∷ memory)
  added_holds m new memory other h = record { found = h.found; is = look_added m new memory n other ∙ h.is; contents = h.contents }

  made_holds : (program : Program) (names : ℕ → ℕ) → ((i : ℕ) → names i ≡ n → ⊥) → (i : ℕ) (ds : List ℕ) (memory : Memory) → Holds memory
      → Holds (made_from program names i ds memory)
  made_holds program names new i [] memory h = h
  made_holds program names new i (d ∷ ds) memory h =
      made_holds program names new (suc i) ds ((names i, new_block (layout program) (type_declared program d)) ∷ memory)
      (added_holds (names i) (new_block (layout program) (type_declared program d)) memory (new i) h)

  given_holds : (program : Program) (names : ℕ → ℕ) → ((i : ℕ) → names i ≡ n → ⊥) → (i : ℕ) (ds : List ℕ) (arguments : List Value) (memory : Memory) → Holds memory
      → Holds (given_from program names i ds arguments memory)
  given_holds program names new i [] arguments memory h = h
  given_holds program names new i (d ∷ ds) [] memory h =
      given_holds program names new (suc i) ds [] ((names i, new_block (layout program) (type_declared program d)) ∷ memory)
      (added_holds (names i) (new_block (layout program) (type_declared program d)) memory (new i) h)
  given_holds program names new i (d ∷ ds) (value ∷ arguments) memory h =
      given_holds program names new (suc i) ds arguments
      ((names i, record (new_block (layout program) (type_declared program d)) { contents = value }) ∷ memory)
      (added_holds (names i) (record (new_block (layout program) (type_declared program d)) { contents = value }) memory (new i) h)

  new_names : (names : ℕ → ℕ) (memory : Memory) → IsFresh names memory → Holds memory → (i : ℕ) → names i ≡ n → ⊥
  new_names names memory fresh h i e = none_is_some h.found (sym (fresh.1 i) ∙ ap (look_up memory) e ∙ h.is)

  -- an effect on a name that is free of it is none on the object
  free_name : (closed : List ℕ) (name : Name) → IsFree closed (by_name name) n → name ≡ numbered n → ⊥
  free_name closed name free e =
      subst (λ x. IsFree closed (by_name x) n → ⊥) (sym e) (λ f. f (on_object n) (inl refl) refl) free

  -- ---- what a step leaves in a frame

  abbrev TurnHolds : Turned → Type 0
  TurnHolds (onward objects tasks memory) = Holds memory
  TurnHolds (refused cause place) = Unit {0}

  module _ (program : Program) (objects : Objects) (rest : List Task) (memory : Memory) (h : Holds memory) where
    returning_holds : (value : Option Tree) → TurnHolds (returning objects memory value)
    returning_holds None = h
    returning_holds (Some tree) = h

    form_holds : (names : ℕ → ℕ) → ((i : ℕ) → names i ≡ n → ⊥) → (label : Label) (trees : List Tree)
        → TurnHolds (begin_form program names objects rest memory label trees)
    form_holds names new block_form trees = made_holds program names new 0 (declared_in program trees) memory h
    form_holds names new full trees = one_tree_has TurnHolds trees _ _ (λ tree. h) h
    form_holds names new if_statement trees =
        first_tree_has TurnHolds trees _ _
        (λ condition others. first_tree_has TurnHolds others _ _ (λ first seconds. option_tree_has TurnHolds seconds _ _ (λ second. h) h) h) h
    form_holds names new switch trees = first_tree_has TurnHolds trees _ _ (λ operand items. h) h
    form_holds names new while_loop trees =
        first_tree_has TurnHolds trees _ _ (λ condition others. one_tree_has TurnHolds others _ _ (λ body. h) h) h
    form_holds names new do_loop trees =
        first_tree_has TurnHolds trees _ _ (λ body others. one_tree_has TurnHolds others _ _ (λ condition. h) h) h
    form_holds names new (for_loop first second third) trees =
        if_tree_has TurnHolds first trees _ _
        (λ start others. if_tree_has TurnHolds second others _ _
        (λ condition seconds. if_tree_has TurnHolds third seconds _ _
        (λ after thirds. one_tree_has TurnHolds thirds _ _ (λ body. made_holds program names new 0 (declared_in program (as_list start)) memory h) h) h) h) h
    form_holds names new break trees = h
    form_holds names new continue trees = h
    form_holds names new return trees = option_tree_has TurnHolds trees (returning objects memory) _ returning_holds h
    form_holds names new label trees = h

    statement_holds : (names : ℕ → ℕ) → ((i : ℕ) → names i ≡ n → ⊥) → (tree : Tree) → TurnHolds (begin_statement program names objects rest memory tree)
    statement_holds names new tree = by_tree (unlabelled tree)
      where
        by_tree : (t : Tree) → TurnHolds (begin_tree program names objects rest memory t)
        by_tree (node label kind spans parts) = form_holds names new label (listed parts)

    initialiser_holds : (at : At) (kind : CType) → (at.name ≡ numbered n → ⊥) → (initialiser : Initialiser) (expressions : List Tree)
        → TurnHolds (begin_initialiser program objects rest memory at kind initialiser expressions)
    initialiser_holds at kind away one_expression expressions = one_tree_has TurnHolds expressions _ _ (λ tree. h) h
    initialiser_holds at kind away (in_braces items) expressions =
        written_holds memory at (value_listed (layout program) kind (count_items items) (contents_at memory at)) away h

    test_holds : (place : Place) (truth : Truth) (following : Bool → Turned) → ((b : Bool) → TurnHolds (following b)) → TurnHolds (by_test place truth following)
    test_holds place (holds b) following k = k b
    test_holds place (untold cause) following k = tt

    concluded_holds : (closed : List ℕ) (place : Place) (use_of : Use) (result : Result) → IsFree closed (use_effects use_of) n
        → TurnHolds (concluded program objects rest memory place use_of result)
    concluded_holds closed place drops result free = h
    concluded_holds closed place (chooses first second) result free = test_holds place (truth_of memory (value_of result)) _ (λ b. h)
    concluded_holds closed place (selects items) result free = h
    concluded_holds closed place (repeats loop) result free = test_holds place (truth_of memory (value_of result)) _ (λ b. h)
    concluded_holds closed place (continues loop) result free = h
    concluded_holds closed place returns result free = h
    concluded_holds closed place (initialises at kind) result free = written_holds memory at (initial_value kind result) (free_name closed at.name free) h

    ended_holds : (saved : Objects) (tasks : List Task) → TurnHolds (ended saved objects tasks memory)
    ended_holds saved tasks = killed_holds (named_since saved objects) memory h

    break_holds : (tasks : List Task) → TurnHolds (after_break objects memory tasks)
    break_holds [] = h
    break_holds (again saved loop ∷ tasks) = ended_holds saved tasks
    break_holds (ends_switch saved ∷ tasks) = ended_holds saved (ends_switch saved ∷ tasks)
    break_holds (task ∷ tasks) = break_holds tasks

    continue_holds : (tasks : List Task) → TurnHolds (after_continue objects memory tasks)
    continue_holds [] = h
    continue_holds (again saved loop ∷ tasks) = ended_holds saved (again saved loop ∷ tasks)
    continue_holds (task ∷ tasks) = continue_holds tasks

  -- ---- states

  abbrev StateHolds : State → Type 0
  StateHolds state = Holds state.world.memory

  one_holds : (x other : State) → StateHolds x → IsAmong other (x ∷ []) → StateHolds other
  one_holds x other h (inl e) = subst StateHolds (sym e) h
  one_holds x other h (inr k) = absurd k

  module _ (program : Program) (closed_objects : List ℕ) (quiet : ℕ → Bool) (state : State) (h : StateHolds state) where
    abbrev stage : Stage
    stage = stage_of program closed_objects quiet state

    turned_holds : (t : Turned) → TurnHolds t → StateHolds (turned state t)
    turned_holds (onward objects tasks memory) k = k
    turned_holds (refused cause place) k = h

    opened_holds : (names : ℕ → ℕ) → ((i : ℕ) → names i ≡ n → ⊥) → (rest : List Task) (place : Place) (use_of : Use) (kind : CType) (hole : Hole)
        (arguments : List Value) (o : Option Definition) → StateHolds (opened program names state rest place use_of kind hole arguments o)
    opened_holds names new rest place use_of kind hole arguments None = h
    opened_holds names new rest place use_of kind hole arguments (Some definition) =
        made_holds program names new (length definition.parameters) (declared_in program (parts_of definition.body))
        (given_from program names 0 definition.parameters arguments state.world.memory)
        (given_holds program names new 0 definition.parameters arguments state.world.memory h)

    moved_holds : (names : ℕ → ℕ) → ((i : ℕ) → names i ≡ n → ⊥) → (rest : List Task) (place : Place) (use_of : Use) (run : Run)
        → IsFree closed_objects (effects_of stage run) n → (m : Move Run Hole) → IsAmong m (moves (scene_of program state) state.world (locks_in run) run)
        → StateHolds (moved program names state rest place use_of m)
    moved_holds names new rest place use_of run free (goes world later) k = by_writes (step_writes stage state.world (locks_in run) run later world k)
      where
        by_writes : Writes state.world world (effects_of stage run) → Holds world.memory
        by_writes (inl e) = subst Holds (sym e) h
        by_writes (inr w) =
            subst Holds (sym w.is) (written_holds state.world.memory w.at w.value (λ e. free (on_object n) (w.among n e) refl) h)
    moved_holds names new rest place use_of run free (calls f arguments kind hole) k =
        opened_holds names new rest place use_of kind hole arguments (definition_of program f)
    moved_holds names new rest place use_of run free (fails cause at) k = h
    moved_holds names new rest place use_of run free (exits status) k = h

    expression_holds : (names : ℕ → ℕ) → ((i : ℕ) → names i ≡ n → ⊥) → (rest : List Task) (place : Place) (use_of : Use) (run : Run)
        → IsFree closed_objects (effects_of stage run ++ use_effects use_of) n → (other : State)
        → IsAmong other (expression_steps program names state rest place use_of run) → StateHolds other
    expression_holds names new rest place use_of (done kind result locks) free other k =
        one_holds (turned state (concluded program state.frame.objects rest state.world.memory place use_of result)) other
        (turned_holds (concluded program state.frame.objects rest state.world.memory place use_of result)
        (concluded_holds program state.frame.objects rest state.world.memory h closed_objects place use_of result
        (λ effect l. free effect (among_right effect (effects_of stage (done kind result locks)) (use_effects use_of) l)))) k
    expression_holds names new rest place use_of (to_do doing kind at parts) free other k =
        let from = among-map_from (moved program names state rest place use_of) other _ k in
        subst StateHolds (sym from.2)
        (moved_holds names new rest place use_of (to_do doing kind at parts)
        (λ effect l. free effect (among_left effect (effects_of stage (to_do doing kind at parts)) (use_effects use_of) l)) from.0 from.1)

    handed_holds : (value : Value) (callers : List Caller) → StateHolds (handed_back state value callers)
    handed_holds value [] = h
    handed_holds value (caller ∷ callers) = by_bool (lacks_value caller.kind value)
      where
        by_bool : (b : Bool) → StateHolds (if b then record state { standing = undefined NoValue caller.place } else gone_back state value caller callers)
        by_bool true = h
        by_bool false = killed_holds (map (λ (entry : ℕ × ℕ). entry.1) state.frame.objects) state.world.memory h

    brace_holds : StateHolds (closed program state)
    brace_holds = by_main (is_main (declaration_of program state.frame.function))
      where
        by_nothing : (b : Bool)
            → StateHolds (if b then record state { frame = record state.frame { tasks = hands_back unset ∷ [] } }
            else record state { standing = undefined NoValue (body_place (definition_of program state.frame.function) no_place) })
        by_nothing true = h
        by_nothing false = h

        by_main : (b : Bool)
            → StateHolds (if b then record state { frame = record state.frame { tasks = hands_back (integer_value Int (pos 0)) ∷ [] } }
            else (if gives_nothing (type_declared program state.frame.function) then record state { frame = record state.frame { tasks = hands_back unset ∷ [] } }
            else record state { standing = undefined NoValue (body_place (definition_of program state.frame.function) no_place) }))
        by_main true = h
        by_main false = by_nothing (gives_nothing (type_declared program state.frame.function))

    task_holds : (names : ℕ → ℕ) → ((i : ℕ) → names i ≡ n → ⊥) → (tasks : List Task) → IsFree closed_objects (first_effects stage tasks) n → (other : State)
        → IsAmong other (task_steps program names state tasks) → StateHolds other
    task_holds names new [] free other k = one_holds (closed program state) other brace_holds k
    task_holds names new (begins tree ∷ rest) free other k =
        one_holds (turned state (begin_statement program names state.frame.objects rest state.world.memory tree)) other
        (turned_holds (begin_statement program names state.frame.objects rest state.world.memory tree)
        (statement_holds program state.frame.objects rest state.world.memory h names new tree)) k
    task_holds names new (declares declarator expressions ∷ rest) free other k =
        one_holds (turned state (begin_declarator program state.frame.objects rest state.world.memory declarator expressions)) other h k
    task_holds names new (initials at kind initialiser expressions ∷ rest) free other k =
        one_holds (turned state (begin_initialiser program state.frame.objects rest state.world.memory at kind initialiser expressions)) other
        (turned_holds (begin_initialiser program state.frame.objects rest state.world.memory at kind initialiser expressions)
        (initialiser_holds program state.frame.objects rest state.world.memory h at kind (free_name closed_objects at.name free) initialiser expressions)) k
    task_holds names new (evaluates place run use_of ∷ rest) free other k = expression_holds names new rest place use_of run free other k
    task_holds names new (again saved loop ∷ rest) free other k = absurd k
    task_holds names new (tests saved loop ∷ rest) free other k = absurd k
    task_holds names new (ends saved ∷ rest) free other k =
        one_holds (turned state (ended saved state.frame.objects rest state.world.memory)) other
        (ended_holds program state.frame.objects rest state.world.memory h saved rest) k
    task_holds names new (ends_switch saved ∷ rest) free other k =
        one_holds (turned state (ended saved state.frame.objects rest state.world.memory)) other
        (ended_holds program state.frame.objects rest state.world.memory h saved rest) k
    task_holds names new (leaves ∷ rest) free other k =
        one_holds (turned state (after_break state.frame.objects state.world.memory rest)) other
        (turned_holds (after_break state.frame.objects state.world.memory rest) (break_holds program state.frame.objects rest state.world.memory h rest)) k
    task_holds names new (skips ∷ rest) free other k =
        one_holds (turned state (after_continue state.frame.objects state.world.memory rest)) other
        (turned_holds (after_continue state.frame.objects state.world.memory rest) (continue_holds program state.frame.objects rest state.world.memory h rest)) k
    task_holds names new (hands_back value ∷ rest) free other k =
        one_holds (handed_back state value state.callers) other (handed_holds value state.callers) k

-- What the next task doesn't name as written holds what it held.
pub step_holds : (program : Program) (closed_objects : List ℕ) (quiet : ℕ → Bool) (state other : State) → Step program state other → (n : ℕ) (block : Block)
    → look_up state.world.memory n ≡ Some block → IsFree closed_objects (next_effects (stage_of program closed_objects quiet state) state) n
    → StillHolds other.world.memory n block
step_holds program closed_objects quiet state other step n block e free =
    let h : StillHolds state.world.memory n block = record { found = block; is = e; contents = refl } in
    task_holds n block program closed_objects quiet state h step.0 (new_names n block step.0 state.world.memory step.1 h) (unfolded state.frame.tasks) free other
    (from_steps state.standing (task_steps program step.0 state (unfolded state.frame.tasks)) other step.2).1
