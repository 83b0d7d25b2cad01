-- The steps of typed states leave typed states.
use Rattle.std.specs.Prelude.{◌≡◌, refl, ℕ, zero, suc, Bool, true, false, ◌||◌, IsTrue, List, [], ◌∷◌, map, length, Option, Some, None, pos, codes, if◌then◌else◌}
use Rattle.std.proofs.Common.{arith, ap, sym, ◌∙◌, subst, inl, inr}
use Rattle.std.proofs.lemmas.Bool.{false≢true}
use Rattle.std.proofs.lemmas.Int.{ints}
use Rattle.std.proofs.lemmas.Slice.Eq.{bytes_eq-Decides}
use Rattle.dm_token.specs.declared.place.Place.{Place}
use Rattle.dm_int.specs.declared.Kind.TheVariants.{Char, Int}
use Rattle.dm_type.specs.Alike.{are_compatible, match_as_parameters}
use Rattle.dm_type.specs.CTypes.{CType, void, integer, pointer, function as function_type, no_types, more_types, bare}
use Rattle.dm_tree.specs.Composites.{covers}
use Rattle.dm_tree.specs.Scenes.{is_void}
use Rattle.dm_tree.specs.Trees.{Tree, node, parts_of}
use Rattle.dm_tree.specs.Typing.{IsWellTyped, DefinitionFits, is_main_type}
use Rattle.dm_meaning.specs.declared.cause.Cause.TheVariants.{NoValue}
use Rattle.dm_meaning.specs.Among.{IsAmong}
use Rattle.dm_meaning.specs.Machines.{Goes, Standing, undefined, exited}
use Rattle.dm_meaning.specs.Values.{At, Value, integer_value, unset}
use Rattle.dm_meaning.specs.Objects.{Layout}
use Rattle.dm_meaning.specs.Memory.{Memory, written, killed, IsFresh}
use Rattle.dm_meaning.specs.Programs.{Program, Definition, layout, declaration_of, definition_of}
use Rattle.dm_meaning.specs.Running.{Run, done, to_do, locks_in, Hole}
use Rattle.dm_meaning.specs.Expressions.{Move, goes, calls, fails, exits, moves}
use Rattle.dm_meaning.specs.States.{Use, Task, begins, declares, initials, evaluates, again, tests, ends, ends_switch, leaves, skips, hands_back, Caller, State}
use Rattle.dm_meaning.specs.Statements.{Turned, onward, refused, declared_in, kind_declared, type_declared, named_from, begin_statement, begin_declarator, begin_initialiser, concluded, unfolded, ended, after_break, after_continue}
use Rattle.dm_meaning.specs.Steps.{given_from, opened_memory, opened, lacks_value, gone_back, handed_back, is_main, gives_nothing, body_place, no_place, closed, turned, moved, scene_of, expression_steps, task_steps, Step}
use Rattle.dm_meaning.specs.Units.{machine_of}
use Rattle.dm_meaning.specs.Wholes.{is_expression}
use Rattle.dm_meaning.proofs.AmongLemmas.{among-map_from}
use Rattle.dm_meaning.proofs.OptionLemmas.{and_left}
use Rattle.dm_meaning.proofs.StateLemmas.{from_steps}
use Rattle.dm_meaning.proofs.StoreLemmas.{MoveKeeps, moves_keep}
use Rattle.dm_sound.specs.TypedValues.{IsGiven}
use Rattle.dm_sound.specs.TypedTrees.{scene_in, IsTyped}
use Rattle.dm_sound.specs.TypedRuns.{IsTypedFunction, IsTypedProgram, ComesFrom, CallFits, HoleComesFrom, MoveFits, result_in, result_of}
use Rattle.dm_sound.specs.TypedStates.{AllAreTyped, UseFits, TasksFit, AreTypedCallers, IsTypedState}
use Rattle.dm_sound.proofs.ValueLemmas.{number_same}
use Rattle.dm_sound.proofs.GivenLemmas.{given_number, void_given}
use Rattle.dm_sound.proofs.ComeLemmas.{typed_parts, filled_comes}
use Rattle.dm_sound.proofs.CallLemmas.{found_definition}
use Rattle.dm_sound.proofs.RunLemmas.{moves_fit}
use Rattle.dm_sound.proofs.FirstLemmas.{typed_opened, typed_killed}
use Rattle.dm_sound.proofs.PlaceLemmas.{Keeps, keeps_same, keeps_then, keeps_written, keeps_killed, named_later, AreNewFrom, made_keeps, made_named, given_named, use_later, tasks_later, callers_later}
use Rattle.dm_sound.proofs.TaskLemmas.{all_listed, unfolded_fit, given_back, DeclaresFill, items_fit, TurnedFits, statement_fits, declarator_fits, initialiser_fits, concluded_fits, ended_fits, break_fits, continue_fits}

stored_keeps : (memory : Memory) (at : At) (value : Value) (later : Memory) → Keeps memory later → Keeps memory (written later at value)
stored_keeps memory at value later k = keeps_then memory later (written later at value) k (keeps_written at value later)

-- ---- main (5.1.2.2.1)

int_result : (type : CType) (a b : Bool) → are_compatible type (function_type (integer Int) no_types) ≡ a → are_compatible type (function_type (integer Int) (more_types (integer Int) (more_types (pointer (pointer (integer Char))) no_types))) ≡ b
    → (a || b) ≡ true → result_in type ≡ integer Int
int_result (function_type (integer k) ps) true b e f h = ap integer (number_same k Int (and_left (are_compatible (integer k) (integer Int)) (match_as_parameters ps no_types) e))
int_result (function_type (integer k) ps) false true e f h =
    ap integer (number_same k Int (and_left (are_compatible (integer k) (integer Int)) (match_as_parameters ps (more_types (integer Int) (more_types (pointer (pointer (integer Char))) no_types))) f))
int_result (function_type (integer k) ps) false false e f h = absurd (false≢true h)
int_result (function_type r ps) true b e f h = absurd (false≢true e)
int_result (function_type r ps) false true e f h = absurd (false≢true f)
int_result (function_type r ps) false false e f h = absurd (false≢true h)
int_result type true b e f h = absurd (false≢true e)
int_result type false true e f h = absurd (false≢true f)
int_result type false false e f h = absurd (false≢true h)

main_result : (type : CType) → IsTrue (is_main_type type) → result_in type ≡ integer Int
main_result type h = int_result type _ _ refl refl h

nothing_result : (type : CType) → gives_nothing type ≡ true → bare (result_in type) ≡ void
nothing_result (function_type r ps) h = is_void_of (bare r) h
  where
    is_void_of : (t : CType) → is_void t ≡ true → t ≡ void
    is_void_of void k = refl
    is_void_of t k = absurd (false≢true k)
nothing_result type h = absurd (false≢true h)

zero_given : (laid : Layout) → IsGiven laid (integer Int) (integer_value Int (pos 0))
zero_given laid = given_number laid (integer Int) Int (pos 0) refl (omega (arith, ints), omega (arith, ints))

module _ (program : Program) (sound : IsTypedProgram program) (fills : (result : CType) → DeclaresFill program result) where
  -- ---- functions

  abbrev result_for : ℕ → CType
  result_for f = bare (result_of program f)

  pub record IsFunction (f : ℕ) (definition : Definition) : Type 0 where
    pub typed : IsTypedFunction program definition
    pub same : definition.function ≡ f

  pub function_there : (f : ℕ) (definition : Definition) → definition_of program f ≡ Some definition → IsFunction f definition
  function_there f definition e = let found = found_definition program.functions f definition e in record { typed = sound.functions definition found.0; same = found.1 }

  entry_there : (f : ℕ) (definition : Definition) (h : IsFunction f definition) → declaration_of program f ≡ Some h.typed.entry
  entry_there f definition h = ap (declaration_of program) (sym h.same) ∙ h.typed.declared

  body_by : (f : ℕ) (definition : Definition) (h : IsFunction f definition) (type : CType) → h.typed.entry.kind ≡ type → DefinitionFits (scene_in program void false false None) definition.parameters definition.body type
      → IsTyped program (result_for f) definition.body
  body_by f definition h (function_type r types) e fits = record {
    breaks = false;
    continues = false;
    labels = None;
    typed = subst (λ (t : CType). IsWellTyped (scene_in program (bare (result_in t)) false false None) definition.body) (sym (ap kind_declared (entry_there f definition h) ∙ e)) fits.2;
    proper = h.typed.proper;
  }
  body_by f definition h type e fits = absurd fits

  pub body_typed : (f : ℕ) (definition : Definition) → definition_of program f ≡ Some definition → IsTyped program (result_for f) definition.body
  body_typed f definition e = let h = function_there f definition e in body_by f definition h h.typed.entry.kind refl h.typed.fits.1

  main_given : (f : ℕ) (definition : Definition) → definition_of program f ≡ Some definition → is_main (declaration_of program f) ≡ true → IsGiven (layout program) (result_for f) (integer_value Int (pos 0))
  main_given f definition e m =
      let h = function_there f definition e in
      let named = (bytes_eq-Decides h.typed.entry.name (codes "main")).0 (ap is_main (sym (entry_there f definition h)) ∙ m) in
      let int = main_result h.typed.entry.kind (h.typed.fits.2 named).0 in
      subst (λ (t : CType). IsGiven (layout program) (bare t) (integer_value Int (pos 0))) (sym (ap (λ o. result_in (kind_declared o)) (entry_there f definition h) ∙ int)) (zero_given (layout program))

  pub parts_typed : (result : CType) (tree : Tree) → IsTyped program result tree → AllAreTyped program result (parts_of tree)
  parts_typed result (node label kind spans parts) t = all_listed program result parts (typed_parts program result label kind spans parts t)

  -- ---- states

  module _ (state : State) (s : IsTypedState program state) where
    abbrev memory : Memory
    memory = state.world.memory

    abbrev result : CType
    result = result_for state.frame.function

    abbrev Turns : (rest : List Task) → TasksFit program memory result rest → Turned → Type 0
    Turns rest waits t = TurnedFits program sound.scope.table result (fills result) state.frame.objects rest memory s.world.memory s.frame.named waits t

    -- where a state ends it stays what it was
    ended_state : (standing : Standing) → IsTypedState program (record state { standing = standing })
    ended_state standing = record { world = s.world; statics = s.statics; frame = s.frame; callers = s.callers }

    turned_typed : (rest : List Task) (waits : TasksFit program memory result rest) (t : Turned) → Turns rest waits t → IsTypedState program (turned state t)
    turned_typed rest waits (onward objects tasks after) h = record {
      world = record { memory = h.0; input = s.world.input };
      statics = named_later program memory after h.1 state.statics s.statics;
      frame = record { definition = s.frame.definition; defined = s.frame.defined; named = h.2; tasks = h.3 };
      callers = callers_later program memory after h.1 state.frame.function state.callers s.callers;
    }
    turned_typed rest waits (refused cause place) h = ended_state (undefined cause place)

    one_typed : (rest : List Task) (waits : TasksFit program memory result rest) (t : Turned) → Turns rest waits t → (other : State) → IsAmong other (turned state t ∷ []) → IsTypedState program other
    one_typed rest waits t h other (inl e) = subst (IsTypedState program) (sym e) (turned_typed rest waits t h)
    one_typed rest waits t h other (inr e) = absurd e

    -- ---- returns

    tasks_typed : (tasks : List Task) → TasksFit program memory result tasks → IsTypedState program (record state { frame = record state.frame { tasks = tasks } })
    tasks_typed tasks h = record { world = s.world; statics = s.statics; frame = record { definition = s.frame.definition; defined = s.frame.defined; named = s.frame.named; tasks = h }; callers = s.callers }

    closed_typed : IsTypedState program (closed program state)
    closed_typed = by_main (is_main (declaration_of program state.frame.function)) refl
      where
        to_nothing : State
        to_nothing = if gives_nothing (type_declared program state.frame.function) then record state { frame = record state.frame { tasks = hands_back unset ∷ [] } }
            else record state { standing = undefined NoValue (body_place (definition_of program state.frame.function) no_place) }

        by_nothing : (b : Bool) → gives_nothing (type_declared program state.frame.function) ≡ b
            → IsTypedState program (if b then record state { frame = record state.frame { tasks = hands_back unset ∷ [] } } else record state { standing = undefined NoValue (body_place (definition_of program state.frame.function) no_place) })
        by_nothing true e = tasks_typed (hands_back unset ∷ []) (subst (λ (t : CType). IsGiven (layout program) t unset) (sym (nothing_result (type_declared program state.frame.function) e)) (void_given (layout program)), tt)
        by_nothing false e = ended_state (undefined NoValue (body_place (definition_of program state.frame.function) no_place))

        by_main : (b : Bool) → is_main (declaration_of program state.frame.function) ≡ b → IsTypedState program (if b then record state { frame = record state.frame { tasks = hands_back (integer_value Int (pos 0)) ∷ [] } } else to_nothing)
        by_main true e = tasks_typed (hands_back (integer_value Int (pos 0)) ∷ []) (main_given state.frame.function s.frame.definition s.frame.defined e, tt)
        by_main false e = by_nothing (gives_nothing (type_declared program state.frame.function)) refl

    back_typed : (value : Value) → IsGiven (layout program) result value → (callers : List Caller) → AreTypedCallers program memory state.frame.function callers → IsTypedState program (handed_back state value callers)
    back_typed value given [] h = ended_state (exited _)
    back_typed value given (caller ∷ callers) h = by_lack (lacks_value caller.kind value)
      where
        dying : List ℕ
        dying = map (λ entry. entry.1) state.frame.objects

        after : Memory
        after = killed dying memory

        keeps : Keeps memory after
        keeps = keeps_killed dying memory

        returned : IsGiven (layout program) caller.kind value
        returned = subst (λ (t : CType). IsGiven (layout program) t value) (sym h.0.gives) (given_back (layout program) (result_of program state.frame.function) h.0.result h.0.covered value given)

        by_lack : (b : Bool) → IsTypedState program (if b then record state { standing = undefined NoValue caller.place } else gone_back state value caller callers)
        by_lack true = ended_state (undefined NoValue caller.place)
        by_lack false = record {
          world = record { memory = typed_killed (layout program) dying memory s.world.memory; input = s.world.input };
          statics = named_later program memory after keeps state.statics s.statics;
          frame = record {
            definition = h.0.frame.definition;
            defined = h.0.frame.defined;
            named = named_later program memory after keeps caller.frame.objects h.0.frame.named;
            tasks = (
              (h.0.tree, h.0.typed, filled_comes (layout program) h.0.tree caller.kind caller.hole value h.0.comes returned, use_later program memory after keeps _ h.0.tree caller.use_of h.0.use_of, h.0.whole),
              tasks_later program memory after keeps _ caller.frame.tasks h.0.frame.tasks,
            );
          };
          callers = callers_later program memory after keeps caller.frame.function callers h.1;
        }

    -- ---- calls

    module _ (names : ℕ → ℕ) (fresh : IsFresh names memory) where
      opened_typed : (rest : List Task) (place : Place) (use_of : Use) (kind : CType) (hole : Hole) (arguments : List Value) (f : ℕ) (tree : Tree) → TasksFit program memory result rest → IsTyped program result tree
          → UseFits program memory result tree use_of → IsTrue (is_expression tree) → (call : CallFits program f arguments kind) → HoleComesFrom (layout program) tree kind hole
          → IsTypedState program (opened program names state rest place use_of kind hole arguments (Some call.definition))
      opened_typed rest place use_of kind hole arguments f tree waits t u is call comes =
          let definition = call.definition in
          let there = function_there f definition call.defined in
          let items = declared_in program (parts_of definition.body) in
          let count = length definition.parameters in
          let first = given_from program names 0 definition.parameters arguments memory in
          let given = given_named program names fresh.0 0 definition.parameters arguments [] memory count (omega arith) (λ j le. fresh.1 j) tt in
          let later : AreNewFrom program names fresh.0 count first = given.new in
          let after = opened_memory program names definition arguments memory in
          let keeps = keeps_then memory first after given.keeps (made_keeps program names fresh.0 count items first later) in
          let own = result_for definition.function in
          let defined : definition_of program definition.function ≡ Some definition = ap (definition_of program) there.same ∙ call.defined in
          record {
            world = record { memory = typed_opened program sound.scope.table names definition arguments memory call.arguments_fit s.world.memory; input = s.world.input };
            statics = named_later program memory after keeps state.statics s.statics;
            frame = record {
              definition = definition;
              defined = defined;
              named = made_named program names fresh.0 count items (named_from names 0 definition.parameters []) first later given.named;
              tasks = items_fit program sound.scope.table own (fills own) after (parts_of definition.body) (parts_typed own definition.body (body_typed definition.function definition defined));
            };
            callers = (
              record {
                frame = record {
                  definition = s.frame.definition;
                  defined = s.frame.defined;
                  named = named_later program memory after keeps state.frame.objects s.frame.named;
                  tasks = tasks_later program memory after keeps result rest waits;
                };
                tree = tree;
                typed = t;
                comes = comes;
                use_of = use_later program memory after keeps result tree use_of u;
                whole = is;
                result = call.result;
                gives = call.gives;
                covered = subst (λ g. IsTrue (covers (result_of program g) call.result)) (sym there.same) call.covered;
              },
              callers_later program memory after keeps state.frame.function state.callers s.callers,
            );
          }

      -- ---- expressions

      moved_typed : (rest : List Task) (place : Place) (use_of : Use) (tree : Tree) → TasksFit program memory result rest → IsTyped program result tree → UseFits program memory result tree use_of → IsTrue (is_expression tree)
          → (m : Move Run Hole) → MoveFits program memory tree m → MoveKeeps (Keeps memory) (stored_keeps memory) (scene_of program state) state.world [] (keeps_same memory) m → IsTypedState program (moved program names state rest place use_of m)
      moved_typed rest place use_of tree waits t u is (goes world run) h k = record {
        world = h.0;
        statics = named_later program memory world.memory k state.statics s.statics;
        frame = record {
          definition = s.frame.definition;
          defined = s.frame.defined;
          named = named_later program memory world.memory k state.frame.objects s.frame.named;
          tasks = ((tree, t, h.2, use_later program memory world.memory k result tree use_of u, is), tasks_later program memory world.memory k result rest waits);
        };
        callers = callers_later program memory world.memory k state.frame.function state.callers s.callers;
      }
      moved_typed rest place use_of tree waits t u is (calls f arguments kind hole) h k =
          subst (λ (o : Option Definition). IsTypedState program (opened program names state rest place use_of kind hole arguments o)) (sym h.0.defined)
          (opened_typed rest place use_of kind hole arguments f tree waits t u is h.0 h.1)
      moved_typed rest place use_of tree waits t u is (fails cause at) h k = ended_state (undefined cause at)
      moved_typed rest place use_of tree waits t u is (exits status) h k = ended_state (exited status)

      expression_typed : (rest : List Task) (place : Place) (use_of : Use) (tree : Tree) (run : Run) → (waits : TasksFit program memory result rest) → IsTyped program result tree → ComesFrom (layout program) tree run
          → UseFits program memory result tree use_of → IsTrue (is_expression tree) → (other : State) → IsAmong other (expression_steps program names state rest place use_of run) → IsTypedState program other
      expression_typed rest place use_of tree (done kind given locks) waits t c u is other e =
          one_typed rest waits (concluded program state.frame.objects rest memory place use_of given)
          (concluded_fits program sound.scope.table result (fills result) state.frame.objects rest memory s.world.memory s.frame.named waits tree place use_of given u c.1) other e
      expression_typed rest place use_of tree (to_do doing kind at members) waits t c u is other e =
          let run = to_do doing kind at members in
          let scene = scene_of program state in
          let from = among-map_from (moved program names state rest place use_of) other (moves scene state.world (locks_in run) run) e in
          subst (IsTypedState program) (sym from.2)
          (moved_typed rest place use_of tree waits t u is from.0 (moves_fit scene sound state.world s.world (locks_in run) result run tree t c from.0 from.1)
          (moves_keep (Keeps memory) (stored_keeps memory) scene state.world (locks_in run) (keeps_same memory) run from.0 from.1))

      -- ---- all steps

      task_typed : (tasks : List Task) → TasksFit program memory result tasks → (other : State) → IsAmong other (task_steps program names state tasks) → IsTypedState program other
      task_typed [] h other (inl e) = subst (IsTypedState program) (sym e) closed_typed
      task_typed [] h other (inr e) = absurd e
      task_typed (begins tree ∷ rest) h other e =
          one_typed rest h.1 (begin_statement program names state.frame.objects rest memory tree)
          (statement_fits program sound.scope.table result (fills result) state.frame.objects rest memory s.world.memory s.frame.named h.1 names fresh.0 (λ j le. fresh.1 j) tree h.0) other e
      task_typed (declares declarator trees ∷ rest) h other e =
          one_typed rest h.1 (begin_declarator program state.frame.objects rest memory declarator trees)
          (declarator_fits program sound.scope.table result (fills result) state.frame.objects rest memory s.world.memory s.frame.named h.1 declarator trees h.0) other e
      task_typed (initials at kind initialiser trees ∷ rest) h other e =
          one_typed rest h.1 (begin_initialiser program state.frame.objects rest memory at kind initialiser trees)
          (initialiser_fits program sound.scope.table result (fills result) state.frame.objects rest memory s.world.memory s.frame.named h.1 at kind initialiser trees h.0.0 h.0.1) other e
      task_typed (evaluates place run use_of ∷ rest) h other e = expression_typed rest place use_of h.0.0 run h.1 h.0.1 h.0.2 h.0.3 h.0.4 other e
      task_typed (again saved loop ∷ rest) h other e = absurd e
      task_typed (tests saved loop ∷ rest) h other e = absurd e
      task_typed (ends saved ∷ rest) h other e =
          one_typed rest h.1 (ended saved state.frame.objects rest memory)
          (ended_fits program sound.scope.table result (fills result) state.frame.objects rest memory s.world.memory s.frame.named h.1 saved rest h.0 h.1) other e
      task_typed (ends_switch saved ∷ rest) h other e =
          one_typed rest h.1 (ended saved state.frame.objects rest memory)
          (ended_fits program sound.scope.table result (fills result) state.frame.objects rest memory s.world.memory s.frame.named h.1 saved rest h.0 h.1) other e
      task_typed (leaves ∷ rest) h other e =
          one_typed rest h.1 (after_break state.frame.objects memory rest)
          (break_fits program sound.scope.table result (fills result) state.frame.objects rest memory s.world.memory s.frame.named h.1 rest h.1) other e
      task_typed (skips ∷ rest) h other e =
          one_typed rest h.1 (after_continue state.frame.objects memory rest)
          (continue_fits program sound.scope.table result (fills result) state.frame.objects rest memory s.world.memory s.frame.named h.1 rest h.1) other e
      task_typed (hands_back value ∷ rest) h other (inl e) = subst (IsTypedState program) (sym e) (back_typed value h.0 state.callers s.callers)
      task_typed (hands_back value ∷ rest) h other (inr e) = absurd e

  pub step_typed : (state other : State) → IsTypedState program state → Step program state other → IsTypedState program other
  step_typed state other s step =
      task_typed state s step.0 step.1 (unfolded state.frame.tasks) (unfolded_fit program (result_for state.frame.function) state.world.memory state.frame.tasks s.frame.tasks) other (from_steps state.standing _ other step.2).1

  -- so do more of them
  pub goes_typed : (n : ℕ) (state other : State) → IsTypedState program state → Goes (machine_of program) n state other → IsTypedState program other
  unfolding Goes
  goes_typed zero state other s g = subst (IsTypedState program) g s
  goes_typed (suc n) state other s g = goes_typed n g.0 other (step_typed state g.0 s g.1) g.2
