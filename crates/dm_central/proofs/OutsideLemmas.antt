-- Each step of the new program in a function that the old program has too is met: by a step of the old one, or, in an untouched argument or where
-- the added function is called, by none.
use Rattle.std.specs.Prelude.{◌≡◌, refl, ℕ, ◌≤◌, ◌+◌, Bool, true, false, List, [], ◌∷◌, ◌++◌, map, Option, Some, None, pos, if◌then◌else◌}
use Rattle.std.proofs.Common.{true≢false, ap, sym, ◌∙◌, subst, inl, inr}
use Rattle.dm_token.specs.declared.place.Place.{Place}
use Rattle.dm_int.specs.declared.Kind.TheVariants.{Int}
use Rattle.dm_type.specs.CTypes.{CType}
use Rattle.dm_tree.specs.Trees.{Tree, Declarator, Initialiser}
use Rattle.dm_meaning.specs.declared.cause.Cause.{Cause}
use Rattle.dm_meaning.specs.declared.cause.Cause.TheVariants.{NoValue, External}
use Rattle.dm_meaning.specs.Among.{IsAmong}
use Rattle.dm_meaning.specs.Called.{Called, new_of}
use Rattle.dm_meaning.specs.Expressions.{Move, goes, calls, fails, exits}
use Rattle.dm_meaning.specs.Machines.{going, exited, undefined, Goes}
use Rattle.dm_meaning.specs.Memory.{Memory, killed, IsFresh}
use Rattle.dm_meaning.specs.Operations.{of_value, World, Objects, object_named}
use Rattle.dm_meaning.specs.Programs.{Program, Definition, declaration_of, definition_of}
use Rattle.dm_meaning.specs.Replaced.{renamed_declarator, Zipped}
use Rattle.dm_meaning.specs.Running.{Run, done, to_do, Hole, begun, filled_in, IsOpen, locks_in}
use Rattle.dm_meaning.specs.Simulation.{GoesWrong}
use Rattle.dm_meaning.specs.States.{Use, returns, Task, begins, declares, initials, evaluates, again, tests, ends, ends_switch, leaves, skips, hands_back, Caller, State}
use Rattle.dm_meaning.specs.Statements.{Turned, onward, refused, type_declared, unfolded, concluded, begin_statement, begin_declarator, begin_initialiser, ended, after_break, after_continue}
use Rattle.dm_meaning.specs.Steps.{opened, lacks_value, gone_back, handed_back, is_main, gives_nothing, body_place, no_place, closed, turned, moved, expression_steps, task_steps, steps_from, next, Step}
use Rattle.dm_meaning.specs.Units.{machine_of}
use Rattle.dm_meaning.specs.Values.{At, Value, integer_value, unset}
use Rattle.dm_meaning.proofs.AmongLemmas.{among-map_from}
use Rattle.dm_meaning.proofs.EntryLemmas.{AreFresh, entries_from, with_entries, come_set, entries_fresh}
use Rattle.dm_meaning.proofs.LikenessLemmas.{Likeness, same_type, statement_begins, declarator_begins, initialiser_begins, conclusion_agrees, unfolded_agree, ended_agrees, break_agrees, continue_agrees}
use Rattle.dm_meaning.proofs.MatchLemmas.{filled_twice}
use Rattle.dm_meaning.proofs.OptionLemmas.{none_is_some, some_is_some}
use Rattle.dm_meaning.proofs.PassRunLemmas.{Entry as Stored}
use Rattle.dm_meaning.proofs.PassStateLemmas.{Spare, size, step_of_expression}
use Rattle.dm_meaning.proofs.PassStatementLemmas.{limit, share, tasks_left, most, most_inside, share_called}
use Rattle.dm_meaning.proofs.RunLemmas.{OptionAgrees, renamed_objects, object_renamed}
use Rattle.dm_meaning.proofs.ShrinkLemmas.{left_in, hole_left, Leaves as LeavesLess, filled_left, move_leaves}
use Rattle.dm_meaning.proofs.StatementLemmas.{map_append, numbers_renamed}
use Rattle.dm_meaning.proofs.YieldLemmas.{filled_yields}
use Rattle.dm_rewrite.specs.Closed.{IsClosedIn}
use Rattle.dm_rewrite.specs.Computed.{Computed, computed, IsPure}
use Rattle.dm_rewrite.specs.PureSteps.{Meets}
use Rattle.dm_rewrite.specs.Effects.{Stage, effects_of, call_effects, ChangesOnly}
use Rattle.dm_rewrite.proofs.FrameChangeLemmas.{changes_join, changes_ended}
use Rattle.dm_rewrite.proofs.SettleLemmas.{wrong_met}
use Rattle.dm_central.specs.Agreement.{outside, inside, Entry, RunAgrees}
use Rattle.dm_central.specs.Bodies.{Known, closed_numbers, frame_stage, CallsInPlace}
use Rattle.dm_central.specs.NodeSteps.{new_scene}
use Rattle.dm_central.specs.Outcomes.{AgreesBehind, StepAgrees, Entered, Met as MetTree}
use Rattle.dm_central.specs.StateAgreement.{DefinitionFits, RunFits, TreeFits, UseAgrees, TasksAgree, TurnedAgrees, TopAgrees, AreEntered, AreMissing, CallerAgrees, NestedAgrees, CallersAgree, StateAgrees, Phase, WaitsIn, Related, worlds_after, Met, HasWaited, FirstHasWaited, IsSteady}
use Rattle.dm_central.proofs.BehindLemmas.{never_made, changes_fewer, held_kept, entered_kept, computed_later, changes_entered, entries_missing}
use Rattle.dm_central.proofs.BodyLemmas.{likeness}
use Rattle.dm_central.proofs.CallFrameLemmas.{same_main, frame_objects, frame_tasks, frame_memory, definition_fits, added_objects, added_tasks, added_memory, added_held}
use Rattle.dm_central.proofs.DiagramLemmas.{run_matched}
use Rattle.dm_central.proofs.EnterLemmas.{numbers_from, numbers_count, entries_at, entered_first}
use Rattle.dm_central.proofs.EntryLemmas.{entered_agrees}
use Rattle.dm_central.proofs.LeftLemmas.{at_least, less_still, real_left, begins_left, stays_left}
use Rattle.dm_central.proofs.FactLemmas.{fewer_locks}
use Rattle.dm_central.proofs.OutcomeLemmas.{changes_none}
use Rattle.dm_central.proofs.TopLemmas.{same_worlds, more_worlds, fewer_worlds, found_number, top_begun, top_enough, top_run}

-- the state of the new program by that of the old one, but for what is left to do
abbrev pub built : Called → State → List Task → List Caller → State
built change other tasks callers = record {
  standing = other.standing;
  frame = record { function = change.rename other.frame.function; objects = renamed_objects change.rename other.frame.objects; tasks = tasks };
  callers = callers;
  statics = renamed_objects change.rename other.statics;
  world = other.world;
}

pub is_built : (change : Called) (known : Known) (spare : Spare) (starts : List World) (state other : State) → StateAgrees change known spare starts state other → state ≡ built change other state.frame.tasks state.callers
is_built change known spare starts state other h = λ i. record {
  standing = h.standing i;
  frame = record { function = h.function i; objects = h.objects i; tasks = state.frame.tasks };
  callers = state.callers;
  statics = h.statics i;
  world = h.world i;
}

goes_one : (program : Program) (s t : State) → Step program s t → Goes (machine_of program) 1 s t
unfolding Goes
goes_one program s t step = (t, step, refl)

module _ (change : Called) (known : Known) (calling : CallsInPlace change known) where
  abbrev like : Likeness change (TreeFits change known) (RunFits change known)
  like = likeness change known calling

  with_caller : (statics : Objects) (spare : Spare) (start : World) (starts : List World) (g : ℕ) (c d : Caller) (cs ds : List Caller) → CallerAgrees change known statics start g c d
      → CallersAgree change known statics spare starts d.frame.function cs ds → CallersAgree change known statics spare (start ∷ starts) g (c ∷ cs) (d ∷ ds)
  with_caller statics spare start starts g c d [] ds h k = (h, k)
  with_caller statics spare start starts g c d (c' ∷ cs) ds h k = inl (h, k)

  -- ---- one step

  module _ (names : ℕ → ℕ) (other : State) (fresh : IsFresh names other.world.memory) (stands : other.standing ≡ going)
      (spare : Spare) (starts : List World) (steady : IsSteady change known starts other)
      (tasks : List Task) (tasks_agree : TopAgrees change known other.statics other.frame.objects other.world (unfolded tasks) (unfolded other.frame.tasks))
      (callers : List Caller) (callers_agree : CallersAgree change known other.statics spare starts other.frame.function callers other.callers) (w : ℕ) where
    abbrev now : State
    now = built change other tasks callers

    abbrev stage : Stage
    stage = frame_stage change known other.statics other.frame.objects

    abbrev Found : State → Type 0
    Found state = Met change known w spare starts other state

    one_step : (y : State) → IsAmong y (next names change.old other) → (later : List World) → worlds_after starts other.world other.callers y.callers ≡ later
        → (state : State) → Related change known (most change) spare later state y → Found state
    one_step y among later e state related = inr (inl (record {
      last = y;
      step = (names, fresh, among);
      related = subst (λ ws. Related change known (most change) spare ws state y) (sym e) related;
    }))

    outside_step : (y : State) → IsAmong y (next names change.old other) → (later : List World) → worlds_after starts other.world other.callers y.callers ≡ later
        → (state : State) → StateAgrees change known spare later state y → Found state
    outside_step y among later e state h =
        one_step y among later e state (inl (top_enough change known y.statics y.frame.objects y.world (unfolded state.frame.tasks) (unfolded y.frame.tasks) h.tasks, h))

    abbrev same_starts : worlds_after starts other.world other.callers other.callers ≡ starts
    same_starts = same_worlds starts other.world other.callers

    wrong_step : (y : State) → IsAmong y (next names change.old other) → (cause : Cause) (place : Place) → y.standing ≡ undefined cause place → GoesWrong (machine_of change.old) other
    wrong_step y among cause place e = (1, y, goes_one change.old other y (names, fresh, among), cause, place, e)

    old_among : (us : List Task) → unfolded other.frame.tasks ≡ us → (y : State) → IsAmong y (task_steps change.old names other us) → IsAmong y (next names change.old other)
    old_among us e y h =
        subst (λ standing. IsAmong y (steps_from standing (task_steps change.old names other (unfolded other.frame.tasks)))) (sym stands)
        (subst (λ ts. IsAmong y (task_steps change.old names other ts)) (sym e) h)

    turned_met : (t u : Turned) → TurnedAgrees change known t u → IsAmong (turned other u) (next names change.old other) → Found (turned now t)
    turned_met (onward objects ts memory) (onward others us other_memory) h among =
        outside_step (turned other (onward others us other_memory)) among starts same_starts (turned now (onward objects ts memory))
        (record {
          standing = refl;
          function = refl;
          objects = h.0;
          tasks = top_begun change known other.statics others (record other.world { memory = other_memory }) (unfolded ts) (unfolded us) (unfolded_agree change like ts us h.1);
          callers = callers_agree;
          statics = refl;
          world = ap (λ m. record { memory = m; input = other.world.input; output = other.world.output }) h.2;
        })
    turned_met (onward objects ts memory) (refused cause place) h among = absurd h
    turned_met (refused cause place) (onward others us other_memory) h among = absurd h
    turned_met (refused cause place) (refused other_cause at) h among = inl (wrong_step (turned other (refused other_cause at)) among other_cause at refl)

    -- ---- the closing brace

    abbrev closed_by : State → Place → Bool → Bool → State
    closed_by state place main empty =
        if main then record state { frame = record state.frame { tasks = hands_back (integer_value Int (pos 0)) ∷ [] } }
        else if empty then record state { frame = record state.frame { tasks = hands_back unset ∷ [] } }
        else record state { standing = undefined NoValue place }

    closed_bools : (place at : Place) (main empty : Bool) → IsAmong (closed_by other at main empty) (next names change.old other) → Found (closed_by now place main empty)
    closed_bools place at true empty among =
        outside_step (closed_by other at true empty) among starts same_starts (closed_by now place true empty)
        (record { standing = refl; function = refl; objects = refl; tasks = (refl, tt); callers = callers_agree; statics = refl; world = refl })
    closed_bools place at false true among =
        outside_step (closed_by other at false true) among starts same_starts (closed_by now place false true)
        (record { standing = refl; function = refl; objects = refl; tasks = (refl, tt); callers = callers_agree; statics = refl; world = refl })
    closed_bools place at false false among = inl (wrong_step (closed_by other at false false) among NoValue at refl)

    closed_met : IsAmong (closed change.old other) (next names change.old other) → Found (closed (new_of change) now)
    closed_met among =
        let place = body_place (definition_of (new_of change) (change.rename other.frame.function)) no_place in
        let at = body_place (definition_of change.old other.frame.function) no_place in
        subst (λ main. Found (closed_by now place main (gives_nothing (type_declared (new_of change) (change.rename other.frame.function))))) (sym (same_main change known calling other.frame.function))
        (subst (λ type. Found (closed_by now place (is_main (declaration_of change.old other.frame.function)) (gives_nothing type))) (sym (same_type change like other.frame.function))
        (closed_bools place at (is_main (declaration_of change.old other.frame.function)) (gives_nothing (type_declared change.old other.frame.function)) among))

    -- ---- the end of a frame

    -- what happened since the caller called, when the frame's objects have died
    since_then : (start : World) (d : Caller) → HasWaited change known start other d
        → ChangesOnly (frame_stage change known other.statics d.frame.objects) (call_effects known.quiet (Some other.frame.function)) start (record other.world { memory = killed (map (λ entry. entry.1) other.frame.objects) other.world.memory })
    since_then start d h =
        changes_ended (frame_stage change known other.statics d.frame.objects) (call_effects known.quiet (Some other.frame.function)) start other.world (map (λ entry. entry.1) other.frame.objects) h.own h.since

    caller_resumed : (value : Value) (us : List Task) → unfolded other.frame.tasks ≡ hands_back value ∷ us → (start : World) (more : List World) → starts ≡ start ∷ more
        → (c : Caller) (cs : List Caller) (d : Caller) (ds : List Caller) → other.callers ≡ d ∷ ds → HasWaited change known start other d
        → CallerAgrees change known other.statics start other.frame.function c d → CallersAgree change known other.statics spare more d.frame.function cs ds → lacks_value c.kind value ≡ false
        → IsAmong (gone_back other value d ds) (next names change.old other) → Found (gone_back now value c cs)
    caller_resumed value us is_back start more is_starts c cs d ds is_callers waited h k given_value among =
        outside_step (gone_back other value d ds) among more
        (ap (λ xs. worlds_after starts other.world xs ds) is_callers ∙ ap (λ ws. worlds_after ws other.world (d ∷ ds) ds) is_starts ∙ fewer_worlds start more other.world ds d) (gone_back now value c cs)
        (record {
          standing = refl;
          function = h.function;
          objects = h.objects;
          tasks = (
            (
              inr (
                subst (λ t. RunAgrees change (frame_stage change known other.statics d.frame.objects) (outside known.safe) (record other.world { memory = killed (map (λ entry. entry.1) other.frame.objects) other.world.memory }) []
                    (filled_in c.hole (done c.kind (of_value value) [])) (filled_in d.hole (done t (of_value value) []))) h.kind
                    (h.hole (record other.world { memory = killed (map (λ entry. entry.1) other.frame.objects) other.world.memory }) (since_then start d waited) value [] given_value (waited.avoids value us is_back) (λ n free effect l. absurd l)),
                subst (λ n. n ≤ limit change) (sym (filled_left c.hole (done c.kind (of_value value) []) refl)) h.few,
              ),
              h.use_of,
            ),
            h.tasks,
          );
          callers = k;
          statics = refl;
          world = ap (λ ns. record { memory = killed ns other.world.memory; input = other.world.input; output = other.world.output }) (numbers_renamed change.rename other.frame.objects);
        })

    -- a value that isn't given is undefined in both programs
    back_by : (value : Value) (c : Caller) (cs : List Caller) (d : Caller) (ds : List Caller) → c.kind ≡ d.kind
        → (lacks_value c.kind value ≡ false → IsAmong (gone_back other value d ds) (next names change.old other) → Found (gone_back now value c cs))
        → IsAmong (handed_back other value (d ∷ ds)) (next names change.old other) → Found (handed_back now value (c ∷ cs))
    back_by value c cs d ds same resumes among =
        subst (λ kind. Found (if lacks_value kind value then record now { standing = undefined NoValue c.place } else gone_back now value c cs)) (sym same)
        (by_lack (lacks_value d.kind value) refl among)
      where
        by_lack : (b : Bool) → lacks_value d.kind value ≡ b → IsAmong (if b then record other { standing = undefined NoValue d.place } else gone_back other value d ds) (next names change.old other)
            → Found (if b then record now { standing = undefined NoValue c.place } else gone_back now value c cs)
        by_lack true e l = inl (wrong_step (record other { standing = undefined NoValue d.place }) l NoValue d.place refl)
        by_lack false e l = resumes (ap (λ kind. lacks_value kind value) same ∙ e) l

    -- the added function goes on with the value of a function that it has called
    nested_resumed : (value : Value) (us : List Task) → unfolded other.frame.tasks ≡ hands_back value ∷ us → (start : World) (more : List World) → starts ≡ start ∷ more
        → (first : List Stored) (rest : Spare) → spare ≡ first ∷ rest → (c c' : Caller) (cs : List Caller) (d : Caller) (ds : List Caller) → other.callers ≡ d ∷ ds → HasWaited change known start other d
        → NestedAgrees change known other.statics start more other.frame.function first c c' d → CallersAgree change known other.statics rest more d.frame.function cs ds → lacks_value c.kind value ≡ false
        → IsAmong (gone_back other value d ds) (next names change.old other) → Found (gone_back now value c (c' ∷ cs))
    nested_resumed value us is_back start more is_starts first rest is_spare c c' cs d ds is_callers waited h k given_value among =
        let caller_stage = frame_stage change known other.statics d.frame.objects in
        let later : World = record other.world { memory = killed (map (λ entry. entry.1) other.frame.objects) other.world.memory } in
        let now_run = filled_in c.hole (done c.kind (of_value value) []) in
        let run = filled_in h.inner (done d.kind (of_value value) []) in
        let few : left_in now_run ≤ size change = subst (λ n. n ≤ size change) (sym (filled_left c.hole (done c.kind (of_value value) []) refl)) h.few in
        let own_changed = changes_fewer caller_stage h.own (call_effects known.quiet (Some other.frame.function)) start later h.within (since_then start d waited) in
        let changed = changes_fewer caller_stage h.effects h.own start later h.less own_changed in
        let shrunk = h.behind value [] (λ n free effect l. absurd l) in
        one_step (gone_back other value d ds) among more
        (ap (λ xs. worlds_after starts other.world xs ds) is_callers ∙ ap (λ ws. worlds_after ws other.world (d ∷ ds) ds) is_starts ∙ fewer_worlds start more other.world ds d) (gone_back now value c (c' ∷ cs)) (inr (
          first,
          rest,
          is_spare,
          inl (record {
            standing = refl;
            objects = h.objects;
            caller = c';
            others = cs;
            callers = refl;
            run = run;
            hole = h.outer;
            opened = h.opened;
            waits = record {
              place = d.place;
              use_of = d.use_of;
              rest = d.frame.tasks;
              evaluating = ap (λ r. evaluates d.place r d.use_of ∷ d.frame.tasks) (ap (λ x. filled_in x (done d.kind (of_value value) [])) h.hole ∙ filled_twice h.outer h.inner (done d.kind (of_value value) []));
              function = h.caller_function;
              objects = h.caller_objects;
              tasks = h.caller_tasks;
              few = h.few_beyond;
              uses = h.caller_use;
              callers = k;
            };
            origin = h.origin;
            missing = h.missing;
            below = h.below;
            effects = h.effects;
            since = changes_join caller_stage h.effects h.origin start later h.since changed;
            less = λ n free. shrunk n (h.less n free);
            holes = h.beyond;
            entries = h.entries;
            entered = entered_kept caller_stage start later h.own (effects_of caller_stage run) h.entries first own_changed shrunk h.entered;
            left = size change + 5;
            phase = inr (inl (record {
              place = c.place;
              now = now_run;
              is = ap (λ u. evaluates c.place now_run u ∷ c.frame.tasks) h.use_of ∙ ap (λ ts. evaluates c.place now_run returns ∷ ts) h.tasks;
              agrees = inl (subst (λ t. RunAgrees change caller_stage (inside h.entries) later [] now_run (filled_in h.inner (done t (of_value value) []))) h.kind
                  (h.agrees later (since_then start d waited) value [] given_value (waited.avoids value us is_back) (λ n free effect l. absurd l)));
              few = few;
              left = real_left (left_in now_run) (size change) few;
              yields = filled_yields c'.kind c.kind c.hole (done c.kind (of_value value) []) h.yields (refl, value, refl, given_value);
            }));
            enough = most_inside change (hole_left c'.hole) (size change + 5) h.few_beyond (at_least (size change + 5));
            held = h.held;
            statics = refl;
            world = ap (λ ns. record { memory = killed ns other.world.memory; input = other.world.input; output = other.world.output }) (numbers_renamed change.rename other.frame.objects);
          }),
        ))

    back_met : (value : Value) (us : List Task) → unfolded other.frame.tasks ≡ hands_back value ∷ us → (cs ds : List Caller) → other.callers ≡ ds → (ws : List World) → starts ≡ ws
        → CallersAgree change known other.statics spare ws other.frame.function cs ds → FirstHasWaited change known ws other ds
        → IsAmong (handed_back other value ds) (next names change.old other) → Found (handed_back now value cs)
    back_met value us is_back [] [] e ws f h waited among =
        outside_step (handed_back other value []) among starts same_starts (handed_back now value [])
        (record { standing = refl; function = refl; objects = refl; tasks = tasks_agree; callers = callers_agree; statics = refl; world = refl })
    back_met value us is_back [] (d ∷ ds) e ws f h waited among = absurd h
    back_met value us is_back (c ∷ []) [] e [] f h waited among = absurd h
    back_met value us is_back (c ∷ []) [] e (start ∷ more) f h waited among = absurd h
    back_met value us is_back (c ∷ c' ∷ cs) [] e [] f h waited among = absurd h
    back_met value us is_back (c ∷ c' ∷ cs) [] e (start ∷ more) f h waited among = absurd h
    back_met value us is_back (c ∷ []) (d ∷ ds) e [] f h waited among = absurd h
    back_met value us is_back (c ∷ c' ∷ cs) (d ∷ ds) e [] f h waited among = absurd h
    back_met value us is_back (c ∷ []) (d ∷ ds) e (start ∷ more) f h waited among =
        back_by value c [] d ds h.0.kind (caller_resumed value us is_back start more f c [] d ds e waited h.0 h.1) among
    back_met value us is_back (c ∷ c' ∷ cs) (d ∷ ds) e (start ∷ more) f (inl h) waited among =
        back_by value c (c' ∷ cs) d ds h.0.kind (caller_resumed value us is_back start more f c (c' ∷ cs) d ds e waited h.0 h.1) among
    back_met value us is_back (c ∷ c' ∷ cs) (d ∷ ds) e (start ∷ more) f (inr h) waited among =
        back_by value c (c' ∷ cs) d ds h.3.kind (nested_resumed value us is_back start more f h.0 h.1 h.2 c c' cs d ds e waited h.3 h.4) among

    -- ---- expressions

    module _ (rest other_rest : List Task) (rest_agrees : TasksAgree change known rest other_rest) (place at : Place) (use_of other_use : Use) (use_agrees : UseAgrees change known use_of other_use) where
      opened_met : (kind : CType) (hole other_hole : Hole) (arguments : List Value) (g : ℕ) → AgreesBehind change stage (outside known.safe) other.world [] (call_effects known.quiet (Some g)) kind hole other_hole → hole_left hole ≤ limit change
          → (definition other_definition : Option Definition) → definition_of change.old g ≡ other_definition → OptionAgrees (DefinitionFits change known) definition other_definition
          → IsAmong (opened change.old names other other_rest at other_use kind other_hole arguments other_definition) (next names change.old other)
          → Found (opened (new_of change) names now rest place use_of kind hole arguments definition)
      opened_met kind hole other_hole arguments g h few None None e k among = inl (wrong_step _ among External at refl)
      opened_met kind hole other_hole arguments g h few None (Some definition) e k among = absurd k
      opened_met kind hole other_hole arguments g h few (Some definition) None e k among = absurd k
      opened_met kind hole other_hole arguments g h few (Some definition) (Some other_definition) e k among =
          let own_caller : Caller = record { frame = record { function = other.frame.function; objects = other.frame.objects; tasks = other_rest }; place = at; kind = kind; hole = other_hole; use_of = other_use } in
          let new_caller : Caller = record { frame = record { function = change.rename other.frame.function; objects = renamed_objects change.rename other.frame.objects; tasks = rest }; place = place; kind = kind; hole = hole; use_of = use_of } in
          let y = opened change.old names other other_rest at other_use kind other_hole arguments (Some other_definition) in
          outside_step y among (other.world ∷ starts) (more_worlds starts other.world other.callers own_caller) (opened (new_of change) names now rest place use_of kind hole arguments (Some definition))
          (record {
            standing = refl;
            function = k.0.0;
            objects = frame_objects change known calling names definition other_definition k;
            tasks = top_begun change known y.statics y.frame.objects y.world _ _ (unfolded_agree change like _ _ (frame_tasks change known calling names definition other_definition k));
            callers = with_caller other.statics spare other.world starts other_definition.function new_caller own_caller callers other.callers
                (record {
                  function = refl;
                  objects = refl;
                  tasks = rest_agrees;
                  kind = refl;
                  hole = subst (λ f. AgreesBehind change stage (outside known.safe) other.world [] (call_effects known.quiet (Some f)) kind hole other_hole) (sym (found_number change.old.functions g other_definition e)) h;
                  few = few;
                  use_of = use_agrees;
                }) callers_agree;
            statics = refl;
            world = ap (λ m. record { memory = m; input = other.world.input; output = other.world.output }) (frame_memory change known calling names definition other_definition arguments other.world.memory k);
          })

      called_met : (f g : ℕ) (arguments others : List Value) (kind other_kind : CType) (hole other_hole : Hole) → f ≡ change.rename g → arguments ≡ others → kind ≡ other_kind
          → AgreesBehind change stage (outside known.safe) other.world [] (call_effects known.quiet (Some g)) kind hole other_hole → hole_left hole ≤ limit change
          → IsAmong (opened change.old names other other_rest at other_use other_kind other_hole others (definition_of change.old g)) (next names change.old other)
          → Found (opened (new_of change) names now rest place use_of kind hole arguments (definition_of (new_of change) f))
      called_met f g arguments others kind other_kind hole other_hole e a k h few among =
          subst (λ d. Found (opened (new_of change) names now rest place use_of kind hole arguments (definition_of (new_of change) d))) (sym e)
          (subst (λ l. Found (opened (new_of change) names now rest place use_of kind hole l (definition_of (new_of change) (change.rename g)))) (sym a)
          (opened_met kind hole other_hole others g h few (definition_of (new_of change) (change.rename g)) (definition_of change.old g) refl (definition_fits change known calling g)
          (subst (λ t. IsAmong (opened change.old names other other_rest at other_use t other_hole others (definition_of change.old g)) (next names change.old other)) (sym k) among)))

      moved_met : (left : ℕ) → left ≤ limit change → (m n : Move Run Hole) → StepAgrees change stage (outside known.safe) other.world [] m n → LeavesLess left m → IsAmong (moved change.old names other other_rest at other_use n) (next names change.old other)
          → Found (moved (new_of change) names now rest place use_of m)
      moved_met left few m (fails other_cause there) h l among = inl (wrong_step _ among other_cause there refl)
      moved_met left few (goes world run) (goes other_world other_run) h l among =
          outside_step (moved change.old names other other_rest at other_use (goes other_world other_run)) among starts same_starts (moved (new_of change) names now rest place use_of (goes world run))
          (record {
            standing = refl;
            function = refl;
            objects = refl;
            tasks = ((inr (subst (λ x. RunAgrees change stage (outside known.safe) x [] run other_run) h.0 h.1, less_still (left_in run) left (limit change) l few), use_agrees), rest_agrees);
            callers = callers_agree;
            statics = refl;
            world = h.0;
          })
      moved_met left few (goes world run) (calls f others kind hole) h l among = absurd h
      moved_met left few (goes world run) (exits status) h l among = absurd h
      moved_met left few (calls f arguments kind hole) (calls g others other_kind other_hole) h l among = called_met f g arguments others kind other_kind hole other_hole h.0 h.1 h.2 h.3 (less_still (hole_left hole) left (limit change) l few) among
      moved_met left few (calls f arguments kind hole) (goes other_world other_run) h l among = absurd h
      moved_met left few (calls f arguments kind hole) (exits status) h l among = absurd h
      moved_met left few (fails cause at_place) (goes other_world other_run) h l among = absurd h
      moved_met left few (fails cause at_place) (calls g others other_kind other_hole) h l among = absurd h
      moved_met left few (fails cause at_place) (exits status) h l among = absurd h
      moved_met left few (exits status) (exits other_status) h l among =
          outside_step (moved change.old names other other_rest at other_use (exits other_status)) among starts same_starts (moved (new_of change) names now rest place use_of (exits status))
          (record { standing = ap exited h; function = refl; objects = refl; tasks = tasks_agree; callers = callers_agree; statics = refl; world = refl })
      moved_met left few (exits status) (goes other_world other_run) h l among = absurd h
      moved_met left few (exits status) (calls g others other_kind other_hole) h l among = absurd h

      -- ---- the added function is called: the old program stays where it is

      module _ (values : List Value) (kind : CType) (run : Run) (hole : Hole) (left : ℕ) (few : left ≤ limit change) (enough : share change left ≤ w) (less : hole_left hole + 1 ≤ left)
          (entered : Entered change stage other.world values kind run) where
        abbrev first : List Stored
        first = entries_from names 0 change.added.parameters values []

        abbrev entries : List Entry
        entries = entries_at change stage other.world values kind run entered names

        abbrev later : World
        later = record other.world { memory = with_entries change first other.world.memory }

        abbrev new_caller : Caller
        new_caller = record { frame = record { function = change.rename other.frame.function; objects = renamed_objects change.rename other.frame.objects; tasks = rest }; place = place; kind = kind; hole = hole; use_of = use_of }

        entering : (definition : Option Definition) → definition ≡ Some change.added
            → ((opened_one : State) → opened_one ≡ opened (new_of change) names now rest place use_of kind hole values (Some change.added) → Found opened_one)
            → Found (opened (new_of change) names now rest place use_of kind hole values definition)
        entering None found met = absurd (none_is_some _ found)
        entering (Some definition) found met =
            subst (λ d. Found (opened (new_of change) names now rest place use_of kind hole values (Some d))) (sym (some_is_some definition change.added found))
            (met (opened (new_of change) names now rest place use_of kind hole values (Some change.added)) refl)

        unchanged : ChangesOnly stage [] other.world later
        unchanged = changes_entered change known calling stage names values other.world entered.each fresh

        all_fresh : AreFresh first other.world.memory
        all_fresh = entries_fresh names other.world.memory fresh 0 change.added.parameters values [] (λ k l. tt) tt

        missing_below : (start : World) → IsAmong start starts → AreMissing start first
        missing_below start l entry k = never_made start.memory other.world.memory entry.stored (steady.made start l entry.stored) (entries_missing other.world first all_fresh entry k)

        starting : (at_world : World) (at_stage : Stage) → Phase change at_stage at_world (size change + 4) entries (opened (new_of change) names now rest place use_of kind hole values (Some change.added)).frame.tasks kind run
        starting at_world at_stage = inl (record {
          return_kind = calling.return_kind;
          return_spans = calling.return_spans;
          is = added_tasks change known calling;
          agrees = entered_agrees change stage other.world values kind run entered (numbers_from names 0 change.added.parameters) (numbers_count names 0 change.added.parameters) at_stage at_world [];
          typed = entered.typed;
          left = at_least (size change + 4);
        })

        waits : (whole : Run) → unfolded other.frame.tasks ≡ evaluates at whole other_use ∷ other_rest → (memory : Memory)
            → WaitsIn change known spare starts new_caller callers (record other { world = record other.world { memory = memory } }) whole
        waits whole e memory = record {
          place = at;
          use_of = other_use;
          rest = other_rest;
          evaluating = e;
          function = refl;
          objects = refl;
          tasks = rest_agrees;
          few = less_still (hole_left hole) left (limit change) less few;
          uses = use_agrees;
          callers = callers_agree;
        }

        -- its expression stands in the old program
        added_met : (other_hole : Hole) → AgreesBehind change stage (outside known.safe) other.world [] (effects_of stage run) kind hole other_hole → IsOpen other_hole
            → unfolded other.frame.tasks ≡ evaluates at (filled_in other_hole run) other_use ∷ other_rest
            → Found (opened (new_of change) names now rest place use_of kind hole values (Some change.added))
        added_met other_hole h is_open e =
            let changed = changes_fewer stage (effects_of stage run) [] other.world later (λ n free effect l. absurd l) unchanged in
            inr (inr (inr (inr (inl (record {
              entries = first;
              fresh = all_fresh;
              left = share change (hole_left hole) + (size change + 4);
              less = begins_left (share change (hole_left hole)) (size change) w (share_called change (hole_left hole) left w less enough);
              related = inr (
                first,
                spare,
                refl,
                inl (record {
                  standing = refl;
                  objects = added_objects change known calling names values entered.each;
                  caller = new_caller;
                  others = callers;
                  callers = refl;
                  run = run;
                  hole = other_hole;
                  opened = is_open;
                  waits = waits (filled_in other_hole run) e later.memory;
                  origin = other.world;
                  missing = entries_missing other.world first all_fresh;
                  below = missing_below;
                  effects = effects_of stage run;
                  since = changed;
                  less = λ n free. free;
                  holes = h;
                  entries = entries;
                  entered = entered_kept stage other.world later (effects_of stage run) (effects_of stage run) entries first changed (λ n free. free) (entered_first change stage other.world values kind run entered names);
                  left = size change + 4;
                  phase = starting later stage;
                  enough = at_least (share change (hole_left hole) + (size change + 4));
                  held = added_held change known calling names values (come_set entered.kinds values entered.inner entered.come);
                  statics = refl;
                  world = ap (λ m. record { memory = m; input = other.world.input; output = other.world.output }) (added_memory change known calling names values other.world.memory entered.each);
                }),
              );
            })))))

        -- or nowhere, since the call is part of an untouched argument
        added_aside_met : (whole : Run) → unfolded other.frame.tasks ≡ evaluates at whole other_use ∷ other_rest → IsPure run
            → ((n : ℕ) → IsAmong n (closed_numbers known.closed other.frame.objects) → IsClosedIn n (other.statics ++ other.frame.objects) run) → (found : Computed) → computed stage.scene other.world run ≡ Some found
            → (value : Value) → found.result ≡ of_value value
            → ((after : World) → ChangesOnly stage [] other.world after → RunAgrees change stage (outside known.safe) after [] (filled_in hole (done kind (of_value value) [])) whole)
            → Found (opened (new_of change) names now rest place use_of kind hole values (Some change.added))
        added_aside_met whole e pure closed_in found is value comes h =
            inr (inr (inr (inr (inl (record {
              entries = first;
              fresh = all_fresh;
              left = share change (hole_left hole) + (size change + 4);
              less = begins_left (share change (hole_left hole)) (size change) w (share_called change (hole_left hole) left w less enough);
              related = inr (
                first,
                spare,
                refl,
                inr (record {
                  standing = refl;
                  objects = added_objects change known calling names values entered.each;
                  caller = new_caller;
                  others = callers;
                  callers = refl;
                  whole = whole;
                  waits = waits whole e later.memory;
                  run = run;
                  pure = pure;
                  closed = closed_in;
                  value = value;
                  comes = computed_later stage other.world later run pure unchanged found is value comes;
                  origin = other.world;
                  missing = entries_missing other.world first all_fresh;
                  below = missing_below;
                  since = unchanged;
                  resumes = h;
                  entries = entries;
                  entered = entered_kept stage other.world later [] [] entries first unchanged (λ n free. free) (entered_aside entries first (entered_first change stage other.world values kind run entered names));
                  left = size change + 4;
                  phase = starting later stage;
                  enough = at_least (share change (hole_left hole) + (size change + 4));
                  held = added_held change known calling names values (come_set entered.kinds values entered.inner entered.come);
                  statics = refl;
                  world = ap (λ m. record { memory = m; input = other.world.input; output = other.world.output }) (added_memory change known calling names values other.world.memory entered.each);
                }),
              );
            })))))
          where
            entered_aside : (es : List Entry) (fs : List Stored) → AreEntered stage other.world (effects_of stage run) es fs → AreEntered stage other.world [] es fs
            entered_aside es fs k = record {
              among = k.among;
              held = λ entry l. held_kept stage other.world other.world (effects_of stage run) [] (changes_none stage (effects_of stage run) other.world) (λ n free effect a. absurd a) entry.value entry.stood (k.held entry l);
            }

      -- ---- a step of the expression

      expression_met : (run other_run : Run) → RunAgrees change stage (outside known.safe) other.world [] run other_run → left_in run ≤ limit change → share change (left_in run) ≤ w
          → unfolded other.frame.tasks ≡ evaluates at other_run other_use ∷ other_rest
          → (state : State) → IsAmong state (expression_steps (new_of change) names now rest place use_of run) → Found state
      expression_met (done kind result locks) (done other_kind other_result other_locks) h few enough e state (inl k) =
          subst Found (sym k)
          (subst (λ r. Found (turned now (concluded (new_of change) now.frame.objects rest other.world.memory place use_of r))) (sym h.1)
          (turned_met (concluded (new_of change) now.frame.objects rest other.world.memory place use_of other_result) (concluded change.old other.frame.objects other_rest other.world.memory at other_use other_result)
          (conclusion_agrees change like other.frame.objects rest other_rest other.world.memory rest_agrees place at use_of other_use use_agrees other_result)
          (old_among _ e _ (inl refl))))
      expression_met (done kind result locks) (done other_kind other_result other_locks) h few enough e state (inr k) = absurd k
      expression_met (done kind result locks) (to_do doing other_kind spot parts) h few enough e state k = absurd h
      expression_met (to_do doing kind spot parts) other_run h few enough e state k =
          let run = to_do doing kind spot parts in
          let from = among-map_from (moved (new_of change) names now rest place use_of) state _ k in
          let news = renamed_objects change.rename other.statics ++ renamed_objects change.rename other.frame.objects in
          subst Found (sym from.2)
          (by_match from.0 (move_leaves (new_scene change news) other.world (locks_in run) run from.0 from.1)
          (run_matched change calling.added news (other.statics ++ other.frame.objects) (closed_numbers known.closed other.frame.objects) known.quiet (outside known.safe) (λ d allowed. same_objects d) other.world
          (locks_in run) (locks_in other_run) (fewer_locks change calling.added stage (outside known.safe) other.world [] run other_run h) (λ entry l. absurd l) steady.avoids
          [] run other_run h (steady.safe at other_run other_use other_rest e) (λ n c. inl (steady.closed at other_run other_use other_rest e n c)) from.0 from.1))
        where
          same_objects : (d : ℕ) → object_named (renamed_objects change.rename other.statics ++ renamed_objects change.rename other.frame.objects) (change.rename d) ≡ object_named (other.statics ++ other.frame.objects) d
          same_objects d =
              ap (λ os. object_named os (change.rename d)) (sym (map_append (λ (entry : ℕ × ℕ). (change.rename entry.0, entry.1)) other.statics other.frame.objects))
              ∙ object_renamed change.rename calling.injective (other.statics ++ other.frame.objects) d

          by_match : (m : Move Run Hole) → LeavesLess (left_in (to_do doing kind spot parts)) m → MetTree change stage (outside known.safe) other.world (locks_in other_run) [] other_run m
              → Found (moved (new_of change) names now rest place use_of m)
          by_match m l (inl s) =
              moved_met (left_in (to_do doing kind spot parts)) few m s.step s.agrees l
              (old_among _ e _ (step_of_expression change.old names other other_rest at other_use other_run s.step s.among))
          by_match m l (inr (inl s)) =
              let less = subst (LeavesLess (left_in (to_do doing kind spot parts))) s.is l in
              subst (λ x. Found (moved (new_of change) names now rest place use_of x)) (sym s.is)
              (inr (inr (inr (inl (
                share change (left_in s.run),
                stays_left (share change (left_in s.run)) (left_in (begun change.body)) w (share_called change (left_in s.run) (left_in (to_do doing kind spot parts)) w less enough),
                inl (
                  at_least (share change (left_in s.run)),
                  record {
                    standing = refl;
                    function = refl;
                    objects = refl;
                    tasks =
                        subst (TopAgrees change known other.statics other.frame.objects other.world (evaluates place s.run use_of ∷ rest)) (sym e)
                        ((inr (s.agrees, less_still (left_in s.run) (left_in (to_do doing kind spot parts)) (limit change) less few), use_agrees), rest_agrees);
                    callers = callers_agree;
                    statics = refl;
                    world = refl;
                  },
                ),
              )))))
          by_match m l (inr (inr (inl s))) = absurd (true≢false (sym s.inner))
          by_match m l (inr (inr (inr (inl f)))) =
              inl (wrong_met change.old at f.hole other_use other_rest other f.tree (record { stands = stands; opened = f.opened; evaluating = e ∙ ap (λ r. evaluates at r other_use ∷ other_rest) f.is }) f.pure
              (computed stage.scene other.world f.tree) refl (subst (λ r. Meets (locks_in r) (computed stage.scene other.world f.tree)) f.is f.meets))
          by_match m l (inr (inr (inr (inr (inl s))))) =
              subst (λ x. Found (moved (new_of change) names now rest place use_of x)) (sym s.called)
              (entering s.values s.kind s.run s.hole (left_in (to_do doing kind spot parts)) few enough (subst (LeavesLess (left_in (to_do doing kind spot parts))) s.called l) s.entered
              (definition_of (new_of change) change.added.function) calling.added.found (λ one is. subst Found (sym is)
              (added_met s.values s.kind s.run s.hole (left_in (to_do doing kind spot parts)) few enough (subst (LeavesLess (left_in (to_do doing kind spot parts))) s.called l) s.entered s.other_hole s.agrees s.opened
              (e ∙ ap (λ r. evaluates at r other_use ∷ other_rest) s.is))))
          by_match m l (inr (inr (inr (inr (inr s))))) =
              subst (λ x. Found (moved (new_of change) names now rest place use_of x)) (sym s.called)
              (entering s.values s.kind s.run s.hole (left_in (to_do doing kind spot parts)) few enough (subst (LeavesLess (left_in (to_do doing kind spot parts))) s.called l) s.entered
              (definition_of (new_of change) change.added.function) calling.added.found (λ one is. subst Found (sym is)
              (added_aside_met s.values s.kind s.run s.hole (left_in (to_do doing kind spot parts)) few enough (subst (LeavesLess (left_in (to_do doing kind spot parts))) s.called l) s.entered other_run e s.pure s.closed s.found s.is s.value s.comes s.agrees)))

    -- ---- all tasks

    -- a task with one step
    single_met : (us : List Task) → unfolded other.frame.tasks ≡ us → (t u : Turned) → TurnedAgrees change known t u → IsAmong (turned other u) (task_steps change.old names other us)
        → (state : State) → IsAmong state (turned now t ∷ []) → Found state
    single_met us e t u h among state (inl k) = subst Found (sym k) (turned_met t u h (old_among us e _ among))
    single_met us e t u h among state (inr k) = absurd k

    declares_met : (declarator other_declarator : Declarator) (trees others : List Tree) (ts us : List Task) → declarator ≡ renamed_declarator change.rename other_declarator → Zipped (TreeFits change known) trees others → TasksAgree change known ts us
        → unfolded other.frame.tasks ≡ declares other_declarator others ∷ us → (state : State) → IsAmong state (task_steps (new_of change) names now (declares declarator trees ∷ ts)) → Found state
    declares_met declarator other_declarator trees others ts us d h r e state k =
        single_met (declares other_declarator others ∷ us) e (begin_declarator (new_of change) now.frame.objects ts other.world.memory (renamed_declarator change.rename other_declarator) trees)
        (begin_declarator change.old other.frame.objects us other.world.memory other_declarator others)
        (declarator_begins change like other.frame.objects ts us other.world.memory r other_declarator trees others h) (inl refl) state
        (subst (λ x. IsAmong state (task_steps (new_of change) names now (declares x trees ∷ ts))) d k)

    initials_met : (at : At) (kind : CType) (initialiser : Initialiser) (trees others : List Tree) (ts us : List Task) → Zipped (TreeFits change known) trees others → TasksAgree change known ts us
        → unfolded other.frame.tasks ≡ initials at kind initialiser others ∷ us → (state : State) → IsAmong state (task_steps (new_of change) names now (initials at kind initialiser trees ∷ ts)) → Found state
    initials_met at kind initialiser trees others ts us h r e state k =
        single_met (initials at kind initialiser others ∷ us) e (begin_initialiser (new_of change) now.frame.objects ts other.world.memory at kind initialiser trees)
        (begin_initialiser change.old other.frame.objects us other.world.memory at kind initialiser others)
        (initialiser_begins change like other.frame.objects ts us other.world.memory r at kind initialiser trees others h) (inl refl) state k

    task_met : (t u : Task) (ts us : List Task) → TopAgrees change known other.statics other.frame.objects other.world (t ∷ ts) (u ∷ us) → share change (tasks_left (t ∷ ts)) ≤ w → unfolded other.frame.tasks ≡ u ∷ us
        → (state : State) → IsAmong state (task_steps (new_of change) names now (t ∷ ts)) → Found state
    task_met (begins tree) (begins other_tree) ts us h enough e state k =
        single_met (begins other_tree ∷ us) e (begin_statement (new_of change) names now.frame.objects ts other.world.memory tree)
        (begin_statement change.old names other.frame.objects us other.world.memory other_tree)
        (statement_begins change like names other.frame.objects ts us other.world.memory h.1 tree other_tree h.0) (inl refl) state k
    task_met (declares declarator trees) (declares other_declarator others) ts us h enough e state k = declares_met declarator other_declarator trees others ts us h.0.0 h.0.1 h.1 e state k
    task_met (initials at kind initialiser trees) (initials other_at other_kind other_initialiser others) ts us h enough e state k =
        initials_met other_at other_kind other_initialiser trees others ts us h.0.3 h.1 e state
        (subst (λ x. IsAmong state (task_steps (new_of change) names now (initials other_at other_kind x trees ∷ ts))) h.0.2
        (subst (λ x. IsAmong state (task_steps (new_of change) names now (initials other_at x initialiser trees ∷ ts))) h.0.1
        (subst (λ x. IsAmong state (task_steps (new_of change) names now (initials x kind initialiser trees ∷ ts))) h.0.0 k)))
    task_met (evaluates place run use_of) (evaluates at other_run other_use) ts us h enough e state k =
        let top = top_run change known other.statics other.frame.objects other.world steady.named run other_run
        (λ tree is. steady.whole at tree other_use us (e ∙ ap (λ r. evaluates at r other_use ∷ us) is)) h.0.0 in
        expression_met ts us h.1 place at use_of other_use h.0.1 run other_run top.0 top.1 enough e state k
    task_met (again objects loop) (again others other_loop) ts us h enough e state k = absurd k
    task_met (tests objects loop) (tests others other_loop) ts us h enough e state k = absurd k
    task_met (ends saved) (ends others) ts us h enough e state k =
        single_met (ends others ∷ us) e (ended saved now.frame.objects ts other.world.memory) (ended others other.frame.objects us other.world.memory) (ended_agrees change like saved others other.frame.objects ts us other.world.memory h.0 h.1) (inl refl) state k
    task_met (ends_switch saved) (ends_switch others) ts us h enough e state k =
        single_met (ends_switch others ∷ us) e (ended saved now.frame.objects ts other.world.memory) (ended others other.frame.objects us other.world.memory) (ended_agrees change like saved others other.frame.objects ts us other.world.memory h.0 h.1) (inl refl) state k
    task_met leaves leaves ts us h enough e state k =
        single_met (leaves ∷ us) e (after_break now.frame.objects other.world.memory ts) (after_break other.frame.objects other.world.memory us) (break_agrees change like other.frame.objects other.world.memory ts us h.1) (inl refl) state k
    task_met skips skips ts us h enough e state k =
        single_met (skips ∷ us) e (after_continue now.frame.objects other.world.memory ts) (after_continue other.frame.objects other.world.memory us) (continue_agrees change like other.frame.objects other.world.memory ts us h.1) (inl refl) state k
    task_met (hands_back value) (hands_back other_value) ts us h enough e state (inl k) =
        subst Found (sym k) (subst (λ v. Found (handed_back now v callers)) (sym h.0)
        (back_met other_value us e callers other.callers refl starts refl callers_agree steady.waited (old_among _ e _ (inl refl))))
    task_met (hands_back value) (hands_back other_value) ts us h enough e state (inr k) = absurd k
    task_met t u ts us h enough e state k = absurd h.0

    pub tasks_met : (ts us : List Task) → TopAgrees change known other.statics other.frame.objects other.world ts us → share change (tasks_left ts) ≤ w → unfolded other.frame.tasks ≡ us
        → (state : State) → IsAmong state (task_steps (new_of change) names now ts) → Found state
    tasks_met [] [] h enough e state (inl k) = subst Found (sym k) (closed_met (old_among [] e _ (inl refl)))
    tasks_met [] [] h enough e state (inr k) = absurd k
    tasks_met [] (u ∷ us) h enough e state k = absurd h
    tasks_met (t ∷ ts) [] h enough e state k = absurd h
    tasks_met (t ∷ ts) (u ∷ us) h enough e state k = task_met t u ts us h enough e state k
