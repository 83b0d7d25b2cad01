-- Each step of a state leaves its objects set.
use Rattle.std.specs.Prelude.{◌≡◌, refl, ℕ, zero, suc, ◌+◌, Bool, true, false, List, [], ◌∷◌, ◌++◌, map, length, Option, Some, None, pos, if◌then◌else◌}
use Rattle.std.proofs.Common.{arith, ap, sym, ◌∙◌, subst, inl, inr}
use Rattle.dm_token.specs.declared.place.Place.{Place}
use Rattle.dm_int.specs.declared.Kind.TheVariants.{Int}
use Rattle.dm_type.specs.CTypes.{CType, void, function as function_type}
use Rattle.dm_tree.specs.Trees.{Label, block, label_of, parts_of, Tree, node, listed}
use Rattle.dm_tree.specs.Typing.{DefinitionFits}
use Rattle.dm_meaning.specs.declared.cause.Cause.TheVariants.{NoValue}
use Rattle.dm_meaning.specs.Among.{IsAmong}
use Rattle.dm_meaning.specs.Machines.{Goes, Standing, undefined, exited}
use Rattle.dm_meaning.specs.Values.{Value, integer_value, unset}
use Rattle.dm_meaning.specs.Memory.{Memory, killed, IsFresh}
use Rattle.dm_meaning.specs.Programs.{Program, Definition, layout, declaration_of, definition_of}
use Rattle.dm_meaning.specs.Running.{Run, done, to_do, locks_in, Hole}
use Rattle.dm_meaning.specs.Expressions.{Move, goes, calls, fails, exits, moves}
use Rattle.dm_meaning.specs.States.{Use, Task, begins, declares, initials, evaluates, again, tests, ends, ends_switch, leaves, skips, hands_back, Caller, State}
use Rattle.dm_meaning.specs.Statements.{Turned, onward, refused, declared_in, items_tasks, type_declared, named_from, made_from, begin_statement, begin_declarator, begin_initialiser, concluded, unfolded, ended, after_break, after_continue}
use Rattle.dm_meaning.specs.Steps.{given_from, opened_frame, opened_memory, opened, lacks_value, gone_back, handed_back, is_main, gives_nothing, body_place, no_place, closed, turned, moved, scene_of, expression_steps, task_steps, Step}
use Rattle.dm_meaning.specs.Units.{machine_of}
use Rattle.dm_meaning.proofs.AmongLemmas.{among-map_from}
use Rattle.dm_meaning.proofs.StateLemmas.{from_steps}
use Rattle.dm_sound.specs.TypedValues.{IsGiven, StaySet}
use Rattle.dm_sound.specs.TypedTrees.{scene_in, IsTyped}
use Rattle.dm_sound.specs.TypedRuns.{IsTypedFunction, IsTypedProgram, ArgumentsFit, AreGivenValues, MoveFits, result_of}
use Rattle.dm_sound.specs.TypedStates.{TasksFit, AreTypedCallers, IsTypedState}
use Rattle.dm_sound.proofs.ComeLemmas.{typed_parts, filled_comes}
use Rattle.dm_sound.proofs.CallLemmas.{found_definition}
use Rattle.dm_sound.proofs.RunLemmas.{moves_fit}
use Rattle.dm_sound.proofs.PlaceLemmas.{AreNewFrom, given_named}
use Rattle.dm_sound.proofs.SetLemmas.{stay_then, stay_killed}
use Rattle.dm_sound.proofs.TaskLemmas.{unfolded_fit, given_back, DeclaresFill}
use Rattle.dm_sound.proofs.StepLemmas.{function_there, body_typed, step_typed}
use Rattle.dm_initialised.specs.Settled.{IsSettled, IsSettledProgram}
use Rattle.dm_initialised.specs.SetStates.{AreSet, TasksSet, IsSetFrame, IsSetCaller, AreSetCallers, IsSetState, result_for}
use Rattle.dm_initialised.proofs.ScopeLemmas.{set_later, tasks_later, callers_later, statics_later}
use Rattle.dm_initialised.proofs.ObjectLemmas.{named_new, named_beside, stay_made, stay_given, given_set}
use Rattle.dm_initialised.proofs.ItemLemmas.{items_there, items_back, items_set}
use Rattle.dm_initialised.proofs.StatementLemmas.{TurnedSet, Set, unfolded_set, statement_set, declarator_set, initialiser_set, concluded_set, ended_set, break_set, continue_set}

pub nothing_behind : (tasks : List Task) → tasks ++ [] ≡ tasks
nothing_behind [] = refl
nothing_behind (task ∷ tasks) = ap (λ (others : List Task). task ∷ others) (nothing_behind tasks)

module _ (program : Program) (sound : IsTypedProgram program) (fills : (result : CType) → DeclaresFill program result) (needs : ℕ → Bool) (settled : IsSettledProgram needs program) where
  -- ---- the frame of a call

  -- the objects of a function that is called, and what is left to do in it
  pub record Opens (definition : Definition) (names : ℕ → ℕ) (memory : Memory) (arguments : List Value) : Type 0 where
    pub stay : StaySet memory (opened_memory program names definition arguments memory)
    pub frame : IsSetFrame program needs (opened_memory program names definition arguments memory) (opened_frame program names definition)

  opens_by : (definition : Definition) (names : ℕ → ℕ) (distinct : (i j : ℕ) → names i ≡ names j → i ≡ j) (memory : Memory) → AreNewFrom program names distinct 0 memory → (arguments : List Value) → ArgumentsFit program definition.parameters arguments
      → AreGivenValues arguments → (body : Tree) → definition.body ≡ body → label_of body ≡ block → IsTyped program (result_for program definition.function) body → IsSettled needs definition.parameters body → Opens definition names memory arguments
  opens_by definition names distinct memory new arguments fit given (node label kind spans parts) e l t h =
      let own : IsSettled needs definition.parameters (node block kind spans parts) = subst (λ (form : Label). IsSettled needs definition.parameters (node form kind spans parts)) l h in
      let count = length definition.parameters in
      let parameters = definition.parameters in
      let first = given_from program names 0 parameters arguments memory in
      let named = named_from names 0 parameters [] in
      let beside = given_named program names distinct 0 parameters arguments [] memory count (from_none count) new tt in
      let ds = declared_in program (listed parts) in
      let inside = named_from names count ds named in
      let stay = stay_made program names distinct count ds first beside.new in
      let is = sym (ap parts_of e) in
      record {
        stay = subst (λ (items : List Tree). StaySet memory (made_from program names count (declared_in program items) first)) is
            (stay_then memory first (made_from program names count ds first) (stay_given program names distinct 0 parameters arguments memory new) stay);
        frame = record {
          scope = parameters;
          set = subst (λ (items : List Tree). AreSet needs (made_from program names count (declared_in program items) first) (named_from names count (declared_in program items) named) parameters) is
              (λ d n a.
              let there = given_set program names distinct 0 parameters arguments [] memory new fit given d (inl a) in
              (there.0, named_beside names count ds named d (λ b. own.1 d n (items_back program needs settled parts d b) a) ∙ there.1, stay there.0 there.2));
          tasks = subst (λ (items : List Tree). TasksSet program needs (made_from program names count (declared_in program items) first) (result_for program definition.function) (named_from names count (declared_in program items) named) parameters (items_tasks items)) is
              (subst (TasksSet program needs (made_from program names count ds first) (result_for program definition.function) inside parameters) (nothing_behind (items_tasks (listed parts)))
              (items_set program needs settled (made_from program names count ds first) (result_for program definition.function) inside parts (typed_parts program (result_for program definition.function) label kind spans parts t) parameters own.2
              (λ d n a. named_new names count ds named d (items_there program needs settled parts parameters own.2 d n a)) [] (λ later. tt)));
        };
      }
    where
      from_none : (many : ℕ) → many ≡ 0 + many
      from_none many = omega arith

  body_block : (definition : Definition) → IsTypedFunction program definition → label_of definition.body ≡ block
  body_block definition h = by_type h.entry.kind h.fits.1
    where
      by_type : (type : CType) → DefinitionFits (scene_in program void false false None) definition.parameters definition.body type → label_of definition.body ≡ block
      by_type (function_type result types) fits = fits.1
      by_type type fits = absurd fits

  pub opens : (f : ℕ) (definition : Definition) → definition_of program f ≡ Some definition → (names : ℕ → ℕ) (distinct : (i j : ℕ) → names i ≡ names j → i ≡ j) (memory : Memory) → AreNewFrom program names distinct 0 memory → (arguments : List Value)
      → ArgumentsFit program definition.parameters arguments → AreGivenValues arguments → Opens definition names memory arguments
  opens f definition e names distinct memory new arguments fit given =
      let there = function_there program sound fills f definition e in
      opens_by definition names distinct memory new arguments fit given definition.body refl (body_block definition there.typed)
      (body_typed program sound fills definition.function definition (ap (definition_of program) there.same ∙ e))
      (settled.functions definition (found_definition program.functions f definition e).0)

  -- ---- states

  module _ (state : State) (t : IsTypedState program state) (s : IsSetState program needs state) where
    abbrev memory : Memory
    memory = state.world.memory

    abbrev result : CType
    result = result_for program state.frame.function

    abbrev Turns : Turned → Type 0
    Turns turn = TurnedSet program needs settled result state.frame.objects memory turn

    ended_state : (standing : Standing) → IsSetState program needs (record state { standing = standing })
    ended_state standing = record { frame = s.frame; callers = s.callers; statics = s.statics }

    turned_set : (turn : Turned) → Turns turn → IsSetState program needs (turned state turn)
    turned_set (onward objects tasks after) h = record {
      frame = record { scope = h.1; set = h.2; tasks = h.3 };
      callers = callers_later program needs memory after h.0 state.callers s.callers;
      statics = statics_later program needs memory after h.0 state.statics s.statics;
    }
    turned_set (refused cause place) h = ended_state (undefined cause place)

    one_set : (turn : Turned) → Turns turn → (other : State) → IsAmong other (turned state turn ∷ []) → IsSetState program needs other
    one_set turn h other (inl e) = subst (IsSetState program needs) (sym e) (turned_set turn h)
    one_set turn h other (inr e) = absurd e

    -- ---- returns

    handing_set : (value : Value) → IsSetState program needs (record state { frame = record state.frame { tasks = hands_back value ∷ [] } })
    handing_set value = record { frame = record { scope = []; set = λ d n a. absurd a; tasks = tt }; callers = s.callers; statics = s.statics }

    closed_set : IsSetState program needs (closed program state)
    closed_set = by_main (is_main (declaration_of program state.frame.function))
      where
        otherwise : State
        otherwise = record state { standing = undefined NoValue (body_place (definition_of program state.frame.function) no_place) }

        by_nothing : (b : Bool) → IsSetState program needs (if b then record state { frame = record state.frame { tasks = hands_back unset ∷ [] } } else otherwise)
        by_nothing true = handing_set unset
        by_nothing false = ended_state (undefined NoValue (body_place (definition_of program state.frame.function) no_place))

        by_main : (b : Bool) → IsSetState program needs (if b then record state { frame = record state.frame { tasks = hands_back (integer_value Int (pos 0)) ∷ [] } }
            else (if gives_nothing (type_declared program state.frame.function) then record state { frame = record state.frame { tasks = hands_back unset ∷ [] } } else otherwise))
        by_main true = handing_set (integer_value Int (pos 0))
        by_main false = by_nothing (gives_nothing (type_declared program state.frame.function))

    back_set : (value : Value) → IsGiven (layout program) result value → (callers : List Caller) → AreTypedCallers program memory state.frame.function callers → AreSetCallers program needs memory callers
        → IsSetState program needs (handed_back state value callers)
    back_set value given [] h k = ended_state (exited _)
    back_set value given (caller ∷ callers) h k = by_lack (lacks_value caller.kind value)
      where
        dying : List ℕ
        dying = map (λ entry. entry.1) state.frame.objects

        after : Memory
        after = killed dying memory

        stay : StaySet memory after
        stay = stay_killed dying memory

        returned : IsGiven (layout program) caller.kind value
        returned = subst (λ (type : CType). IsGiven (layout program) type value) (sym h.0.gives) (given_back (layout program) (result_of program state.frame.function) h.0.result h.0.covered value given)

        back : IsSetCaller program needs after caller
        back = (callers_later program needs memory after stay (caller ∷ callers) k).0

        by_lack : (b : Bool) → IsSetState program needs (if b then record state { standing = undefined NoValue caller.place } else gone_back state value caller callers)
        by_lack true = ended_state (undefined NoValue caller.place)
        by_lack false = record {
          frame = record {
            scope = back.scope;
            set = back.set;
            tasks = (
              record { tree = back.tree; typed = back.typed; comes = filled_comes (layout program) back.tree caller.kind caller.hole value back.comes returned; stands = back.stands; used = back.used },
              back.later,
              back.within,
              back.tasks,
            );
          };
          callers = (callers_later program needs memory after stay (caller ∷ callers) k).1;
          statics = statics_later program needs memory after stay state.statics s.statics;
        }

    -- ---- expressions

    module _ (names : ℕ → ℕ) (fresh : IsFresh names memory) where
      moved_set : (rest : List Task) (place : Place) (use_of : Use) (run : Run) (here : Set program needs settled result state.frame.objects memory (evaluates place run use_of ∷ rest)) → (m : Move Run Hole) → MoveFits program memory here.waits.0.tree m
          → IsSetState program needs (moved program names state rest place use_of m)
      moved_set rest place use_of run here (goes world later) h =
          let e = here.waits.0 in
          record {
            frame = record {
              scope = here.scope;
              set = set_later program needs memory world.memory h.1 state.frame.objects here.scope here.set;
              tasks = (
                record { tree = e.tree; typed = e.typed; comes = h.2; stands = e.stands; used = e.used },
                here.waits.1,
                here.waits.2,
                tasks_later program needs memory world.memory h.1 result rest state.frame.objects here.waits.1 here.waits.3,
              );
            };
            callers = callers_later program needs memory world.memory h.1 state.callers s.callers;
            statics = statics_later program needs memory world.memory h.1 state.statics s.statics;
          }
      moved_set rest place use_of run here (calls f arguments kind hole) h =
          let e = here.waits.0 in
          let call = h.0 in
          let open_frame = opens f call.definition call.defined names fresh.0 memory (λ j le. fresh.1 j) arguments call.arguments_fit call.arguments_set in
          let after = opened_memory program names call.definition arguments memory in
          let stay = open_frame.stay in
          subst (λ (o : Option Definition). IsSetState program needs (opened program names state rest place use_of kind hole arguments o)) (sym call.defined)
          (record {
            frame = open_frame.frame;
            callers = (
              record {
                scope = here.scope;
                set = set_later program needs memory after stay state.frame.objects here.scope here.set;
                tree = e.tree;
                typed = e.typed;
                comes = h.1;
                stands = e.stands;
                used = e.used;
                later = here.waits.1;
                within = here.waits.2;
                tasks = tasks_later program needs memory after stay result rest state.frame.objects here.waits.1 here.waits.3;
              },
              callers_later program needs memory after stay state.callers s.callers,
            );
            statics = statics_later program needs memory after stay state.statics s.statics;
          })
      moved_set rest place use_of run here (fails cause at) h = ended_state (undefined cause at)
      moved_set rest place use_of run here (exits status) h = ended_state (exited status)

      expression_set : (rest : List Task) (place : Place) (use_of : Use) (run : Run) → TasksFit program memory result (evaluates place run use_of ∷ rest) → Set program needs settled result state.frame.objects memory (evaluates place run use_of ∷ rest)
          → (other : State) → IsAmong other (expression_steps program names state rest place use_of run) → IsSetState program needs other
      expression_set rest place use_of (done kind given locks) h here other e =
          one_set (concluded program state.frame.objects rest memory place use_of given)
          (concluded_set program needs settled result state.frame.objects memory here.scope rest here.set place use_of kind given locks h.0 here.waits) other e
      expression_set rest place use_of (to_do doing kind at members) h here other e =
          let run = to_do doing kind at members in
          let scene = scene_of program state in
          let from = among-map_from (moved program names state rest place use_of) other (moves scene state.world (locks_in run) run) e in
          subst (IsSetState program needs) (sym from.2)
          (moved_set rest place use_of run here from.0
          (moves_fit scene sound state.world t.world (locks_in run) result run here.waits.0.tree here.waits.0.typed here.waits.0.comes from.0 from.1))

      -- ---- all steps

      task_set : (tasks : List Task) → TasksFit program memory result tasks → Set program needs settled result state.frame.objects memory tasks → (other : State) → IsAmong other (task_steps program names state tasks) → IsSetState program needs other
      task_set [] h here other (inl e) = subst (IsSetState program needs) (sym e) closed_set
      task_set [] h here other (inr e) = absurd e
      task_set (begins tree ∷ rest) h here other e =
          one_set (begin_statement program names state.frame.objects rest memory tree)
          (statement_set program needs settled result state.frame.objects memory here.scope rest here.set here.waits.1 names fresh.0 (λ j le. fresh.1 j) tree h.0 here.waits.0) other e
      task_set (declares declarator trees ∷ rest) h here other e =
          one_set (begin_declarator program state.frame.objects rest memory declarator trees)
          (declarator_set program needs settled result state.frame.objects memory here.scope rest here.set declarator trees here.waits) other e
      task_set (initials at kind initialiser trees ∷ rest) h here other e =
          one_set (begin_initialiser program state.frame.objects rest memory at kind initialiser trees)
          (initialiser_set program needs settled result state.frame.objects memory here.scope rest here.set at kind initialiser trees h.0.0 h.0.1 here.waits) other e
      task_set (evaluates place run use_of ∷ rest) h here other e = expression_set rest place use_of run h here other e
      task_set (again saved loop ∷ rest) h here other e = absurd e
      task_set (tests saved loop ∷ rest) h here other e = absurd e
      task_set (ends saved ∷ rest) h here other e =
          one_set (ended saved state.frame.objects rest memory)
          (ended_set program needs settled result state.frame.objects memory saved rest here.waits.0 here.waits.1 here.waits.2) other e
      task_set (ends_switch saved ∷ rest) h here other e =
          one_set (ended saved state.frame.objects rest memory)
          (ended_set program needs settled result state.frame.objects memory saved rest here.waits.0 here.waits.1 here.waits.2) other e
      task_set (leaves ∷ rest) h here other e =
          one_set (after_break state.frame.objects memory rest)
          (break_set program needs settled result state.frame.objects memory rest state.frame.objects here.scope here.waits) other e
      task_set (skips ∷ rest) h here other e =
          one_set (after_continue state.frame.objects memory rest)
          (continue_set program needs settled result state.frame.objects memory rest state.frame.objects here.scope here.waits) other e
      task_set (hands_back value ∷ rest) h here other (inl e) = subst (IsSetState program needs) (sym e) (back_set value h.0 state.callers t.callers s.callers)
      task_set (hands_back value ∷ rest) h here other (inr e) = absurd e

  pub step_set : (state other : State) → IsTypedState program state → IsSetState program needs state → Step program state other → IsSetState program needs other
  step_set state other t s step =
      let f = state.frame.function in
      let here : Set program needs settled (result_for program f) state.frame.objects state.world.memory state.frame.tasks = record { scope = s.frame.scope; set = s.frame.set; waits = s.frame.tasks } in
      task_set state t s step.0 step.1 (unfolded state.frame.tasks) (unfolded_fit program (result_for program f) state.world.memory state.frame.tasks t.frame.tasks)
      (unfolded_set program needs settled (result_for program f) state.frame.objects state.world.memory state.frame.tasks t.frame.tasks here) other (from_steps state.standing _ other step.2).1

  -- so do more of them
  pub goes_set : (n : ℕ) (state other : State) → IsTypedState program state → IsSetState program needs state → Goes (machine_of program) n state other → IsSetState program needs other
  unfolding Goes
  goes_set zero state other t s g = subst (IsSetState program needs) g s
  goes_set (suc n) state other t s g = goes_set n g.0 other (step_typed program sound fills state g.0 t g.1) (step_set state g.0 t s g.1) g.2
