-- A value is lacking at closing braces alone.
use Rattle.std.specs.Prelude.{◌≡◌, refl, ℕ, Bool, true, false, not, ◌&&◌, ◌||◌, IsTrue, List, [], ◌∷◌, ◌++◌, Option, Some, None, pos, if◌then◌else◌}
use Rattle.std.proofs.Common.{ap, sym, ◌∙◌, subst, inl, inr}
use Rattle.std.proofs.lemmas.Bool.{false≢true}
use Rattle.dm_token.specs.declared.place.Place.{Place}
use Rattle.dm_int.specs.declared.Kind.TheVariants.{Int}
use Rattle.dm_type.specs.CTypes.{CType, void, integer, pointer, array, struct, function as function_type, const, bare}
use Rattle.dm_tree.specs.Composites.{covers}
use Rattle.dm_tree.specs.Scenes.{is_void}
use Rattle.dm_tree.specs.Trees.{Tree}
use Rattle.dm_meaning.specs.declared.cause.Cause.{Cause}
use Rattle.dm_meaning.specs.declared.cause.Cause.TheVariants.{NoValue, External}
use Rattle.dm_meaning.specs.Among.{IsAmong}
use Rattle.dm_meaning.specs.Machines.{going, undefined}
use Rattle.dm_meaning.specs.Values.{Value, integer_value, unset}
use Rattle.dm_meaning.specs.Memory.{Memory, written}
use Rattle.dm_meaning.specs.Causes.{is_unset}
use Rattle.dm_meaning.specs.Programs.{Program, Definition, layout, declaration_of, definition_of}
use Rattle.dm_meaning.specs.Operations.{Result, Truth, holds, untold, truth_of}
use Rattle.dm_meaning.specs.Running.{Run, done, to_do, locks_in, Hole}
use Rattle.dm_meaning.specs.Expressions.{Move, goes, calls, fails, exits, value_of, moves}
use Rattle.dm_meaning.specs.States.{Loop, Use, drops, chooses, selects, repeats, continues, returns, initialises, Task, begins, declares, initials, evaluates, again, tests, ends, ends_switch, leaves, skips, hands_back, Caller, State}
use Rattle.dm_meaning.specs.Statements.{Turned, onward, refused, type_declared, items_tasks, unlabelled, begin_statement, begin_declarator, begin_initialiser, initial_value, selected_by, by_test, begins_one, concluded, tested, continued, unfolded, ended, after_break, after_continue}
use Rattle.dm_meaning.specs.Steps.{opened, status_of, lacks_value, gone_back, handed_back, is_main, gives_nothing, body_place, no_place, closed, turned, moved, scene_of, expression_steps, task_steps, Step}
use Rattle.dm_meaning.proofs.AmongLemmas.{among-map_from}
use Rattle.dm_meaning.proofs.StateLemmas.{from_steps}
use Rattle.dm_sound.specs.Lacks.{GivesValues, LacksAtBrace}
use Rattle.dm_sound.specs.TypedRuns.{IsTypedProgram, result_of}
use Rattle.dm_sound.specs.TypedStates.{TasksFit, AreTypedCallers, IsTypedState}
use Rattle.dm_sound.specs.TypedValues.{own_type, has_values, IsGiven}
use Rattle.dm_sound.proofs.CallLemmas.{found_definition}
use Rattle.dm_sound.proofs.CauseLemmas.{moves_have_values, truth_apart_from}
use Rattle.dm_sound.proofs.ExcuseLemmas.{IsOnward, tree_on, initialiser_on, break_on, continue_on, cause_is, going_apart, exited_apart}
use Rattle.dm_sound.proofs.TaskLemmas.{unfolded_fit, given_back}
use Rattle.dm_sound.proofs.ValueLemmas.{own_bare}

-- ---- results

covers_void : (a b : CType) → covers a b ≡ true → is_void a ≡ is_void b
covers_void void void h = refl
covers_void (integer k) (integer l) h = refl
covers_void (pointer a) (pointer b) h = refl
covers_void (array a m) (array b n) h = refl
covers_void (struct m) (struct n) h = refl
covers_void (function_type a ps) (function_type b qs) h = refl
covers_void (const a) (const b) h = refl
covers_void a b h = absurd (false≢true h)

covers_void_bare : (a b : CType) → covers a b ≡ true → is_void (bare a) ≡ is_void (bare b)
covers_void_bare void void h = refl
covers_void_bare (integer k) (integer l) h = refl
covers_void_bare (pointer a) (pointer b) h = refl
covers_void_bare (array a m) (array b n) h = refl
covers_void_bare (struct m) (struct n) h = refl
covers_void_bare (function_type a ps) (function_type b qs) h = refl
covers_void_bare (const a) (const b) h = covers_void a b h
covers_void_bare a b h = absurd (false≢true h)

covers_values : (a b : CType) → covers a b ≡ true → has_values (own_type a) ≡ has_values (own_type b)
covers_values void void h = refl
covers_values (integer k) (integer l) h = refl
covers_values (pointer a) (pointer b) h = refl
covers_values (array a m) (array b n) h = refl
covers_values (struct m) (struct n) h = refl
covers_values (function_type a ps) (function_type b qs) h = refl
covers_values (const a) (const b) h = covers_values a b h
covers_values a b h = absurd (false≢true h)

void_again : (type : CType) → is_void (bare type) ≡ true → is_void (bare (bare type)) ≡ true
void_again void h = refl
void_again (const void) h = refl
void_again (const type) h = absurd (false≢true h)
void_again type h = absurd (false≢true h)

-- a call whose type is void or has values lacks none, where such a value is handed back to it
nothing_lacks : (program : Program) (type : CType) (value : Value) → (is_void (bare type) || has_values (own_type type)) ≡ true → IsGiven (layout program) (bare type) value
    → lacks_value (bare type) value ≡ false
nothing_lacks program type value h given = by_void (is_void (bare type)) refl h
  where
    set_left : (b : Bool) → is_unset value ≡ false → (not b && is_unset value) ≡ false
    set_left true e = refl
    set_left false e = e

    void_left : (b : Bool) → b ≡ true → (not b && is_unset value) ≡ false
    void_left true e = refl
    void_left false e = absurd (false≢true e)

    by_void : (b : Bool) → is_void (bare type) ≡ b → (b || has_values (own_type type)) ≡ true → lacks_value (bare type) value ≡ false
    by_void true e g = void_left (is_void (bare (bare type))) (void_again type e)
    by_void false e g = set_left (is_void (bare (bare type))) (given.set (subst (λ (t : CType). IsTrue (has_values t)) (sym (own_bare type)) g))

-- ---- tasks

tested_some : (objects : List (ℕ × ℕ)) (loop : Loop) (rest : List Task) (o : Option Tree) → tested objects loop rest o ≡ [] → ⊥
tested_some objects loop rest (Some condition) e = cc
tested_some objects loop rest None e = cc

continued_some : (objects : List (ℕ × ℕ)) (loop : Loop) (rest : List Task) (o : Option Tree) → continued objects loop rest o ≡ [] → ⊥
continued_some objects loop rest (Some after) e = cc
continued_some objects loop rest None e = tested_some objects loop rest loop.condition e

nothing_unfolded : (tasks : List Task) → unfolded tasks ≡ [] → tasks ≡ []
nothing_unfolded (tests objects loop ∷ rest) e = absurd (tested_some objects loop rest loop.condition e)
nothing_unfolded (again objects loop ∷ rest) e = absurd (continued_some objects loop rest loop.after e)
nothing_unfolded tasks e = e

-- ---- steps

external_apart : External ≡ NoValue → ⊥
external_apart e = cc

place_is : (a b : Cause) (p q : Place) → undefined a p ≡ undefined b q → q ≡ p
place_is a b p q e = cc

module _ (program : Program) (sound : IsTypedProgram program) (values : GivesValues program) (state : State) (t : IsTypedState program state) (goes_on : state.standing ≡ going) where
  abbrev memory : Memory
  memory = state.world.memory

  abbrev result : CType
  result = bare (result_of program state.frame.function)

  abbrev at_end : Place
  at_end = body_place (definition_of program state.frame.function) no_place

  -- a state is undefined because a value is lacking
  abbrev IsLacking : State → Type 0
  IsLacking other = (place : Place) × (other.standing ≡ undefined NoValue place)

  stays_going : (other : State) → other.standing ≡ state.standing → IsLacking other → ⊥
  stays_going other same (place, e) = going_apart NoValue place (sym goes_on ∙ sym same ∙ e)

  onward_apart : (turn : Turned) → IsOnward turn → IsLacking (turned state turn) → ⊥
  onward_apart (onward objects tasks after) h o = stays_going (turned state (onward objects tasks after)) refl o
  onward_apart (refused cause place) h o = h

  -- ---- the closing brace

  abbrev IsEnd : Place → Type 0
  IsEnd place = (is_main (declaration_of program state.frame.function) ≡ false) × (gives_nothing (type_declared program state.frame.function) ≡ false) × (place ≡ at_end)

  closed_lacks : (o : IsLacking (closed program state)) → IsEnd o.0
  closed_lacks = by_main (is_main (declaration_of program state.frame.function)) refl
    where
      nothing : State
      nothing = record state { standing = undefined NoValue at_end }

      by_nothing : (b : Bool) → is_main (declaration_of program state.frame.function) ≡ false → gives_nothing (type_declared program state.frame.function) ≡ b
          → (o : IsLacking (if b then record state { frame = record state.frame { tasks = hands_back unset ∷ [] } } else nothing)) → IsEnd o.0
      by_nothing true m g o = absurd (stays_going (record state { frame = record state.frame { tasks = hands_back unset ∷ [] } }) refl o)
      by_nothing false m g (place, e) = (m, g, place_is NoValue NoValue at_end place e)

      by_main : (b : Bool) → is_main (declaration_of program state.frame.function) ≡ b
          → (o : IsLacking (if b then record state { frame = record state.frame { tasks = hands_back (integer_value Int (pos 0)) ∷ [] } }
          else (if gives_nothing (type_declared program state.frame.function) then record state { frame = record state.frame { tasks = hands_back unset ∷ [] } } else nothing))) → IsEnd o.0
      by_main true m o = absurd (stays_going (record state { frame = record state.frame { tasks = hands_back (integer_value Int (pos 0)) ∷ [] } }) refl o)
      by_main false m o = by_nothing (gives_nothing (type_declared program state.frame.function)) m refl o

  -- ---- returns

  gives_values : (is_void (bare (result_of program state.frame.function)) || has_values (own_type (result_of program state.frame.function))) ≡ true
  gives_values =
      let found = found_definition program.functions state.frame.function t.frame.definition t.frame.defined in
      subst (λ (f : ℕ). (is_void (bare (result_of program f)) || has_values (own_type (result_of program f))) ≡ true) found.1 (values t.frame.definition found.0)

  covered_gives : (type : CType) → covers (result_of program state.frame.function) type ≡ true → (is_void (bare type) || has_values (own_type type)) ≡ true
  covered_gives type c =
      let whole = result_of program state.frame.function in
      subst (λ (v : Bool). (v || has_values (own_type type)) ≡ true) (covers_void_bare whole type c)
      (subst (λ (v : Bool). (is_void (bare whole) || v) ≡ true) (covers_values whole type c) gives_values)

  back_apart : (value : Value) → IsGiven (layout program) result value → (callers : List Caller) → AreTypedCallers program memory state.frame.function callers → IsLacking (handed_back state value callers) → ⊥
  back_apart value given [] h (place, e) = exited_apart (status_of value) NoValue place e
  back_apart value given (caller ∷ callers) h o = by_lack (lacks_value caller.kind value) there o
    where
      there : lacks_value caller.kind value ≡ false
      there =
          ap (λ (type : CType). lacks_value type value) h.0.gives
          ∙ nothing_lacks program h.0.result value (covered_gives h.0.result h.0.covered) (given_back (layout program) (result_of program state.frame.function) h.0.result h.0.covered value given)

      by_lack : (b : Bool) → b ≡ false → IsLacking (if b then record state { standing = undefined NoValue caller.place } else gone_back state value caller callers) → ⊥
      by_lack true e o' = absurd (false≢true (sym e))
      by_lack false e o' = stays_going (gone_back state value caller callers) refl o'

  -- ---- the end of a full expression

  tested_apart : (place : Place) (value : Value) (truth : Truth) → truth_of memory value ≡ truth → (following : Bool → Turned) → ((b : Bool) → IsOnward (following b)) → IsLacking (turned state (by_test place truth following)) → ⊥
  tested_apart place value (holds b) same following h o = onward_apart (following b) (h b) o
  tested_apart place value (untold cause) same following h (there, e) = truth_apart_from memory value cause same (cause_is cause NoValue place there e)

  concluded_apart : (rest : List Task) (place : Place) (use_of : Use) (given : Result) → IsLacking (turned state (concluded program state.frame.objects rest memory place use_of given)) → ⊥
  concluded_apart rest place drops given o = onward_apart (onward state.frame.objects rest memory) tt o
  concluded_apart rest place (chooses first second) given o =
      tested_apart place (value_of given) (truth_of memory (value_of given)) refl (λ truth. onward state.frame.objects (begins_one (if truth then Some first else second) ++ rest) memory) (λ b. tt) o
  concluded_apart rest place (selects items) given o = onward_apart (onward state.frame.objects (items_tasks (selected_by program (value_of given) items) ++ rest) memory) tt o
  concluded_apart rest place (repeats loop) given o =
      tested_apart place (value_of given) (truth_of memory (value_of given)) refl (λ truth. onward state.frame.objects (if truth then begins loop.body ∷ again state.frame.objects loop ∷ rest else rest) memory) (λ b. tt) o
  concluded_apart rest place (continues loop) given o = onward_apart (onward state.frame.objects (tests state.frame.objects loop ∷ rest) memory) tt o
  concluded_apart rest place returns given o = onward_apart (onward state.frame.objects (hands_back (value_of given) ∷ []) memory) tt o
  concluded_apart rest place (initialises at type) given o = onward_apart (onward state.frame.objects rest (written memory at (initial_value type given))) tt o

  -- ---- all steps

  module _ (names : ℕ → ℕ) where
    opened_apart : (rest : List Task) (place : Place) (use_of : Use) (kind : CType) (hole : Hole) (arguments : List Value) (o : Option Definition) → IsLacking (opened program names state rest place use_of kind hole arguments o) → ⊥
    opened_apart rest place use_of kind hole arguments None (there, e) = external_apart (cause_is External NoValue place there e)
    opened_apart rest place use_of kind hole arguments (Some definition) o = stays_going (opened program names state rest place use_of kind hole arguments (Some definition)) refl o

    moved_apart : (rest : List Task) (place : Place) (use_of : Use) (m : Move Run Hole) → ((cause : Cause) (at : Place) → m ≡ fails cause at → cause ≡ NoValue → ⊥) → IsLacking (moved program names state rest place use_of m) → ⊥
    moved_apart rest place use_of (goes world run) h o = stays_going (moved program names state rest place use_of (goes world run)) refl o
    moved_apart rest place use_of (calls f arguments kind hole) h o = opened_apart rest place use_of kind hole arguments (definition_of program f) o
    moved_apart rest place use_of (fails cause at) h (there, e) = h cause at refl (cause_is cause NoValue at there e)
    moved_apart rest place use_of (exits status) h (there, e) = exited_apart status NoValue there e

    expression_apart : (rest : List Task) (place : Place) (use_of : Use) (run : Run) (other : State) → IsAmong other (expression_steps program names state rest place use_of run) → IsLacking other → ⊥
    expression_apart rest place use_of (done kind given locks) other (inl e) o = concluded_apart rest place use_of given (subst IsLacking e o)
    expression_apart rest place use_of (done kind given locks) other (inr e) o = e
    expression_apart rest place use_of (to_do doing kind at members) other e o =
        let run = to_do doing kind at members in
        let scene = scene_of program state in
        let from = among-map_from (moved program names state rest place use_of) other (moves scene state.world (locks_in run) run) e in
        moved_apart rest place use_of from.0
        (λ cause there same. moves_have_values scene state.world (locks_in run) run cause there (subst (λ (m : Move Run Hole). IsAmong m (moves scene state.world (locks_in run) run)) same from.1))
        (subst IsLacking from.2 o)

    -- where a value is lacking, nothing is left to do
    abbrev Lacks : List Task → State → Type 0
    Lacks tasks other = (o : IsLacking other) → (tasks ≡ []) × IsEnd o.0

    never : (tasks : List Task) (other : State) → (IsLacking other → ⊥) → Lacks tasks other
    never tasks other h o = absurd (h o)

    alone : (tasks : List Task) (one other : State) → (IsLacking one → ⊥) → IsAmong other (one ∷ []) → Lacks tasks other
    alone tasks one other h (inl e) o = absurd (h (subst IsLacking e o))
    alone tasks one other h (inr e) o = absurd e

    task_lacks : (tasks : List Task) → TasksFit program memory result tasks → (other : State) → IsAmong other (task_steps program names state tasks) → Lacks tasks other
    task_lacks [] h other (inl e) = λ o. (refl, closed_lacks (o.0, subst (λ (one : State). one.standing ≡ undefined NoValue o.0) e o.1))
    task_lacks [] h other (inr e) = absurd e
    task_lacks (begins tree ∷ rest) h other e =
        alone (begins tree ∷ rest) _ other (onward_apart (begin_statement program names state.frame.objects rest memory tree) (tree_on program names state.frame.objects rest memory (unlabelled tree))) e
    task_lacks (declares declarator trees ∷ rest) h other e =
        alone (declares declarator trees ∷ rest) _ other (onward_apart (begin_declarator program state.frame.objects rest memory declarator trees) tt) e
    task_lacks (initials at kind initialiser trees ∷ rest) h other e =
        alone (initials at kind initialiser trees ∷ rest) _ other
        (onward_apart (begin_initialiser program state.frame.objects rest memory at kind initialiser trees) (initialiser_on program names state.frame.objects rest memory at kind initialiser trees)) e
    task_lacks (evaluates place run use_of ∷ rest) h other e = never (evaluates place run use_of ∷ rest) other (expression_apart rest place use_of run other e)
    task_lacks (again saved loop ∷ rest) h other e = absurd e
    task_lacks (tests saved loop ∷ rest) h other e = absurd e
    task_lacks (ends saved ∷ rest) h other e = alone (ends saved ∷ rest) _ other (onward_apart (ended saved state.frame.objects rest memory) tt) e
    task_lacks (ends_switch saved ∷ rest) h other e = alone (ends_switch saved ∷ rest) _ other (onward_apart (ended saved state.frame.objects rest memory) tt) e
    task_lacks (leaves ∷ rest) h other e = alone (leaves ∷ rest) _ other (onward_apart (after_break state.frame.objects memory rest) (break_on state.frame.objects memory rest)) e
    task_lacks (skips ∷ rest) h other e = alone (skips ∷ rest) _ other (onward_apart (after_continue state.frame.objects memory rest) (continue_on state.frame.objects memory rest)) e
    task_lacks (hands_back value ∷ rest) h other e = alone (hands_back value ∷ rest) (handed_back state value state.callers) other (back_apart value h.0 state.callers t.callers) e

pub step_lacks : (program : Program) → IsTypedProgram program → GivesValues program → (state other : State) → IsTypedState program state → Step program state other → LacksAtBrace program state other
step_lacks program sound values state other t step place e =
    let from = from_steps state.standing _ other step.2 in
    let end = task_lacks program sound values state t from.0 step.0 (unfolded state.frame.tasks)
    (unfolded_fit program (bare (result_of program state.frame.function)) state.world.memory state.frame.tasks t.frame.tasks) other from.1 (place, e) in
    (record { tasks = nothing_unfolded state.frame.tasks end.0; other = end.1.0; result = end.1.1 }, end.1.2)
