-- Each step leaves a state in which no expression takes the object for set whose first value it is part of.
use Rattle.std.specs.Prelude.{◌≡◌, refl, ℕ, zero, suc, ◌==◌, Bool, true, false, List, [], ◌∷◌, ◌++◌, Option, Some, None, pos, if◌then◌else◌}
use Rattle.std.proofs.Common.{ap, sym, subst, inl, inr}
use Rattle.dm_token.specs.declared.place.Place.{Place}
use Rattle.dm_int.specs.declared.Kind.TheVariants.{Int}
use Rattle.dm_tree.specs.Trees.{Tree, node, listed, parts_of}
use Rattle.dm_meaning.specs.declared.cause.Cause.TheVariants.{NoValue}
use Rattle.dm_meaning.specs.Among.{IsAmong}
use Rattle.dm_meaning.specs.Machines.{undefined, Goes, RunsTo}
use Rattle.dm_meaning.specs.Values.{Value, integer_value, unset}
use Rattle.dm_meaning.specs.Programs.{Definition, Program, declaration_of, definition_in, definition_of}
use Rattle.dm_meaning.specs.Operations.{of_value, Objects}
use Rattle.dm_meaning.specs.Running.{Run, done, to_do, Hole, filled_in, locks_in}
use Rattle.dm_meaning.specs.Expressions.{Move, goes, calls, fails, exits, moves}
use Rattle.dm_meaning.specs.States.{Use, drops, chooses, selects, repeats, continues, returns, initialises, Task, begins, declares, initials, evaluates, again, tests, ends, ends_switch, leaves, skips, hands_back, Caller, State}
use Rattle.dm_meaning.specs.Statements.{Turned, onward, refused, type_declared, items_tasks, begin_statement, begin_declarator, begin_initialiser, concluded, unfolded, ended, after_break, after_continue}
use Rattle.dm_meaning.specs.Steps.{opened, opened_frame, lacks_value, gone_back, handed_back, is_main, gives_nothing, body_place, no_place, closed, turned, moved, scene_of, expression_steps, task_steps, Step}
use Rattle.dm_meaning.specs.Units.{main_in, Begins, machine_of}
use Rattle.dm_meaning.proofs.AmongLemmas.{among-map_from}
use Rattle.dm_meaning.proofs.OptionLemmas.{none_is_some, some_is_some}
use Rattle.dm_meaning.proofs.StateLemmas.{from_steps}
use Rattle.dm_central.specs.Standing.{HasNoMore}
use Rattle.dm_central.proofs.StandingLemmas.{step_no_more, call_no_more}
use Rattle.dm_safe.specs.Spared.{TreeSpares, UseSpares, RunSpares, TasksSpare, CallersSpare, IsSparedState}
use Rattle.dm_safe.proofs.SparedTaskLemmas.{list_spares, items_spare, TurnedSpares, statement_spares, declarator_spares, initialiser_spares, concluded_spares, break_spares, continue_spares, unfolded_spare}

module _ (program : Program) (needs : ℕ → Bool) (sets : Tree → ℕ → Bool) (bodies : (definition : Definition) → IsAmong definition program.functions → TreeSpares needs sets definition.body) where
  -- ---- frames of functions

  defined_there : (definitions : List Definition) (f : ℕ) (definition : Definition) → definition_in definitions f ≡ Some definition → IsAmong definition definitions
  defined_there [] f definition e = absurd (none_is_some definition e)
  defined_there (first ∷ rest) f definition e = by_name (first.function == f) e (defined_there rest f definition)
    where
      by_name : (b : Bool) → (if b then Some first else definition_in rest f) ≡ Some definition → (definition_in rest f ≡ Some definition → IsAmong definition rest) → IsAmong definition (first ∷ rest)
      by_name true g later = inl (sym (some_is_some first definition g))
      by_name false g later = inr (later g)

  main_there : (definitions : List Definition) (main : Definition) → main_in program definitions ≡ Some main → IsAmong main definitions
  main_there [] main e = absurd (none_is_some main e)
  main_there (first ∷ rest) main e = by_name (is_main (declaration_of program first.function)) e (main_there rest main)
    where
      by_name : (b : Bool) → (if b then Some first else main_in program rest) ≡ Some main → (main_in program rest ≡ Some main → IsAmong main rest) → IsAmong main (first ∷ rest)
      by_name true g later = inl (sym (some_is_some first main g))
      by_name false g later = inr (later g)

  nothing_behind : (objects : Objects) (tasks : List Task) → TasksSpare needs sets objects (tasks ++ []) → TasksSpare needs sets objects tasks
  nothing_behind objects tasks h = subst (TasksSpare needs sets objects) (alone tasks) h
    where
      alone : (ts : List Task) → ts ++ [] ≡ ts
      alone [] = refl
      alone (t ∷ ts) = ap (λ us. t ∷ us) (alone ts)

  body_spares : (objects : Objects) (body : Tree) → TreeSpares needs sets body → TasksSpare needs sets objects (items_tasks (parts_of body))
  body_spares objects (node label kind spans members) h =
      nothing_behind objects (items_tasks (listed members)) (items_spare needs sets objects (listed members) [] (list_spares needs sets members h.1) tt)

  frame_spares : (names : ℕ → ℕ) (definition : Definition) → IsAmong definition program.functions → let frame = opened_frame program names definition in TasksSpare needs sets frame.objects frame.tasks
  frame_spares names definition l = body_spares (opened_frame program names definition).objects definition.body (bodies definition l)

  -- ---- full expressions

  fewer_spare : (objects : Objects) (run later : Run) (use_of : Use) → HasNoMore later run → RunSpares needs sets objects run use_of → RunSpares needs sets objects later use_of
  fewer_spare objects run later (initialises at kind) fewer h = (h.0, h.1, h.2, h.3, λ needed tree taken stands. h.4 needed tree taken (fewer tree stands))
  fewer_spare objects run later drops fewer h = tt
  fewer_spare objects run later (chooses first second) fewer h = tt
  fewer_spare objects run later (selects items) fewer h = tt
  fewer_spare objects run later (repeats loop) fewer h = tt
  fewer_spare objects run later (continues loop) fewer h = tt
  fewer_spare objects run later returns fewer h = tt

  -- ---- states

  module _ (names : ℕ → ℕ) (state : State) (s : IsSparedState needs sets state) where
    turned_spares : (turn : Turned) → TurnedSpares needs sets turn → IsSparedState needs sets (turned state turn)
    turned_spares (onward objects tasks memory) h = (h, s.1)
    turned_spares (refused cause place) h = s

    one_spares : (turn : Turned) → TurnedSpares needs sets turn → (other : State) → IsAmong other (turned state turn ∷ []) → IsSparedState needs sets other
    one_spares turn h other (inl e) = subst (IsSparedState needs sets) (sym e) (turned_spares turn h)
    one_spares turn h other (inr e) = absurd e

    closed_spares : IsSparedState needs sets (closed program state)
    closed_spares = by_main (is_main (declaration_of program state.frame.function))
      where
        otherwise : State
        otherwise = record state { standing = undefined NoValue (body_place (definition_of program state.frame.function) no_place) }

        by_nothing : (b : Bool) → IsSparedState needs sets (if b then record state { frame = record state.frame { tasks = hands_back unset ∷ [] } } else otherwise)
        by_nothing true = (tt, s.1)
        by_nothing false = s

        by_main : (b : Bool) → IsSparedState needs sets (if b then record state { frame = record state.frame { tasks = hands_back (integer_value Int (pos 0)) ∷ [] } }
            else (if gives_nothing (type_declared program state.frame.function) then record state { frame = record state.frame { tasks = hands_back unset ∷ [] } } else otherwise))
        by_main true = (tt, s.1)
        by_main false = by_nothing (gives_nothing (type_declared program state.frame.function))

    back_spares : (value : Value) (callers : List Caller) → CallersSpare needs sets callers → IsSparedState needs sets (handed_back state value callers)
    back_spares value [] h = s
    back_spares value (caller ∷ callers) h = by_lack (lacks_value caller.kind value)
      where
        by_lack : (b : Bool) → IsSparedState needs sets (if b then record state { standing = undefined NoValue caller.place } else gone_back state value caller callers)
        by_lack true = s
        by_lack false = ((h.0 value, h.1, h.2), h.3)

    moved_spares : (rest : List Task) (place : Place) (use_of : Use) (run : Run) → RunSpares needs sets state.frame.objects run use_of → UseSpares needs sets use_of → TasksSpare needs sets state.frame.objects rest
        → (m : Move Run Hole) → IsAmong m (moves (scene_of program state) state.world (locks_in run) run) → IsSparedState needs sets (moved program names state rest place use_of m)
    moved_spares rest place use_of run h u w (goes world later) k =
        ((fewer_spare state.frame.objects run later use_of (step_no_more (scene_of program state) state.world (locks_in run) run later world k) h, u, w), s.1)
    moved_spares rest place use_of run h u w (calls f arguments kind hole) k = by_definition (definition_of program f) refl
      where
        by_definition : (o : Option Definition) → definition_of program f ≡ o → IsSparedState needs sets (opened program names state rest place use_of kind hole arguments o)
        by_definition None e = s
        by_definition (Some definition) e = (
          frame_spares names definition (defined_there program.functions f definition e),
          (
            (λ value. fewer_spare state.frame.objects run (filled_in hole (done kind (of_value value) [])) use_of (call_no_more (scene_of program state) state.world (locks_in run) run f arguments kind hole k value) h),
            u,
            w,
            s.1,
          ),
        )
    moved_spares rest place use_of run h u w (fails cause at) k = s
    moved_spares rest place use_of run h u w (exits status) k = s

    expression_spares : (rest : List Task) (place : Place) (use_of : Use) (run : Run) → RunSpares needs sets state.frame.objects run use_of → UseSpares needs sets use_of → TasksSpare needs sets state.frame.objects rest
        → (other : State) → IsAmong other (expression_steps program names state rest place use_of run) → IsSparedState needs sets other
    expression_spares rest place use_of (done kind result locks) h u w other k =
        one_spares (concluded program state.frame.objects rest state.world.memory place use_of result) (concluded_spares needs sets program state.frame.objects rest state.world.memory w place use_of result u) other k
    expression_spares rest place use_of (to_do doing kind at members) h u w other k =
        let run = to_do doing kind at members in
        let from = among-map_from (moved program names state rest place use_of) other (moves (scene_of program state) state.world (locks_in run) run) k in
        subst (IsSparedState needs sets) (sym from.2) (moved_spares rest place use_of run h u w from.0 from.1)

    task_spares : (tasks : List Task) → TasksSpare needs sets state.frame.objects tasks → (other : State) → IsAmong other (task_steps program names state tasks) → IsSparedState needs sets other
    task_spares [] h other (inl e) = subst (IsSparedState needs sets) (sym e) closed_spares
    task_spares [] h other (inr e) = absurd e
    task_spares (begins tree ∷ rest) h other k =
        one_spares (begin_statement program names state.frame.objects rest state.world.memory tree) (statement_spares needs sets program names state.frame.objects rest state.world.memory h.1 tree h.0) other k
    task_spares (declares declarator trees ∷ rest) h other k =
        one_spares (begin_declarator program state.frame.objects rest state.world.memory declarator trees) (declarator_spares needs sets program state.frame.objects rest state.world.memory h.1 declarator trees h.0) other k
    task_spares (initials at kind initialiser trees ∷ rest) h other k =
        one_spares (begin_initialiser program state.frame.objects rest state.world.memory at kind initialiser trees) (initialiser_spares needs sets program state.frame.objects rest state.world.memory h.1 at kind initialiser trees h.0) other k
    task_spares (evaluates place run use_of ∷ rest) h other k = expression_spares rest place use_of run h.0 h.1 h.2 other k
    task_spares (again saved loop ∷ rest) h other k = absurd k
    task_spares (tests saved loop ∷ rest) h other k = absurd k
    task_spares (ends saved ∷ rest) h other k = one_spares (ended saved state.frame.objects rest state.world.memory) h other k
    task_spares (ends_switch saved ∷ rest) h other k = one_spares (ended saved state.frame.objects rest state.world.memory) h other k
    task_spares (leaves ∷ rest) h other k =
        one_spares (after_break state.frame.objects state.world.memory rest) (break_spares needs sets state.frame.objects state.world.memory rest state.frame.objects h) other k
    task_spares (skips ∷ rest) h other k =
        one_spares (after_continue state.frame.objects state.world.memory rest) (continue_spares needs sets state.frame.objects state.world.memory rest state.frame.objects h) other k
    task_spares (hands_back value ∷ rest) h other (inl e) = subst (IsSparedState needs sets) (sym e) (back_spares value state.callers s.1)
    task_spares (hands_back value ∷ rest) h other (inr e) = absurd e

  -- ---- runs

  pub step_spares : (state other : State) → IsSparedState needs sets state → Step program state other → IsSparedState needs sets other
  step_spares state other s step =
      task_spares step.0 state s (unfolded state.frame.tasks) (unfolded_spare needs sets state.frame.objects state.frame.tasks s.0) other (from_steps state.standing _ other step.2).1

  goes_spare : (n : ℕ) (state other : State) → IsSparedState needs sets state → Goes (machine_of program) n state other → IsSparedState needs sets other
  unfolding Goes
  goes_spare zero state other s g = subst (IsSparedState needs sets) g s
  goes_spare (suc n) state other s g = goes_spare n g.0 other (step_spares state g.0 s g.1) g.2

  begins_spared : (input : List ℕ) (state : State) → Begins program input state → IsSparedState needs sets state
  begins_spared input state (bytes, names, fresh, main, is_main_here, e) =
      subst (IsSparedState needs sets) (sym e) (frame_spares _ main (main_there program.functions main is_main_here), tt)

  -- So in each state of a run it is so.
  pub run_spares : (input : List ℕ) (n : ℕ) (state : State) → RunsTo (machine_of program) input n state → IsSparedState needs sets state
  run_spares input n state run = goes_spare n run.start state (begins_spared input run.start run.begins) run.goes
