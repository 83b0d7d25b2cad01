-- Each step of the new program in the added function is met where the old program has its expression in place of the call: by a step of the old
-- one, by all steps of an untouched argument, or by none.
use Rattle.std.specs.Prelude.{◌≡◌, refl, ◌⊎◌, ℕ, zero, suc, ◌≤◌, ◌+◌, false, List, [], ◌∷◌, ◌++◌, map, Option, Some, None, if◌then◌else◌}
use Rattle.std.proofs.Common.{arith, true≢false, ap, sym, ◌∙◌, subst, inl, inr}
use Rattle.dm_token.specs.declared.place.Place.{Place}
use Rattle.dm_type.specs.CTypes.{CType}
use Rattle.dm_tree.specs.Trees.{return, node, no_trees, more_trees}
use Rattle.dm_meaning.specs.declared.cause.Cause.{Cause}
use Rattle.dm_meaning.specs.declared.cause.Cause.TheVariants.{NoValue, External}
use Rattle.dm_meaning.specs.Among.{IsAmong}
use Rattle.dm_meaning.specs.Called.{Called, new_of}
use Rattle.dm_meaning.specs.Expressions.{Move, goes, calls, fails, exits, lifted, value_of, kind_of_run, moves}
use Rattle.dm_meaning.specs.Extending.{AreAmong}
use Rattle.dm_meaning.specs.Machines.{going, exited, undefined, Goes}
use Rattle.dm_meaning.specs.Memory.{look_up, killed, IsFresh}
use Rattle.dm_meaning.specs.Operations.{of_value, World, Objects, whole}
use Rattle.dm_meaning.specs.Programs.{Program, Definition, definition_of}
use Rattle.dm_meaning.specs.Running.{Run, done, to_do, Hole, begun, filled_in, IsOpen, hole_in, locks_in}
use Rattle.dm_meaning.specs.Simulation.{GoesWrong}
use Rattle.dm_meaning.specs.States.{returns, Task, begins, evaluates, hands_back, Caller, State}
use Rattle.dm_meaning.specs.Statements.{place_of, unfolded}
use Rattle.dm_meaning.specs.Steps.{opened, lacks_value, gone_back, moved, expression_steps, task_steps, steps_from, next, Step}
use Rattle.dm_meaning.specs.Units.{machine_of}
use Rattle.dm_meaning.specs.Values.{At, numbered, Value, overlaps_any}
use Rattle.dm_meaning.proofs.AmongLemmas.{among-map_from}
use Rattle.dm_meaning.proofs.EntryLemmas.{objects_in, none_named, own_named}
use Rattle.dm_meaning.proofs.KnownLemmas.{same_named}
use Rattle.dm_meaning.proofs.LikenessLemmas.{unfolded_agree}
use Rattle.dm_meaning.proofs.MatchLemmas.{parameter_block, filled_twice, opened_twice}
use Rattle.dm_meaning.proofs.MoveLemmas.{move_lifts, locks_lift}
use Rattle.dm_meaning.proofs.OptionLemmas.{some_is_some}
use Rattle.dm_meaning.proofs.PassRunLemmas.{Entry as Stored}
use Rattle.dm_meaning.proofs.PassStateLemmas.{Spare, AreHeld, size, step_of_expression}
use Rattle.dm_meaning.proofs.PassStatementLemmas.{limit, share, most, most_inside}
use Rattle.dm_meaning.proofs.RunLemmas.{OptionAgrees, renamed_objects}
use Rattle.dm_meaning.proofs.ShrinkLemmas.{left_in, hole_left, Leaves as LeavesLess, filled_left, move_leaves}
use Rattle.dm_meaning.proofs.YieldLemmas.{begun_yields, Yields, HoleYields, MoveYields, move_yields_on}
use Rattle.dm_rewrite.specs.Computed.{Computed, computed}
use Rattle.dm_rewrite.specs.Effects.{Effect, on_others, Stage, target_effects, effects_of, call_effects, lock_effects, ChangesOnly, IsNoMore, LeavesNoMore}
use Rattle.dm_rewrite.specs.PureSteps.{Meets}
use Rattle.dm_rewrite.proofs.EffectLemmas.{step_keeps}
use Rattle.dm_rewrite.proofs.FrameChangeLemmas.{changes_join}
use Rattle.dm_rewrite.proofs.SettleLemmas.{wrong_met}
use Rattle.dm_rewrite.proofs.ShrinkEffectLemmas.{AllFirst, run_calm}
use Rattle.dm_central.specs.Agreement.{Stood, a_value, a_tree, Entry, outside, inside, IsReading, RunAgrees}
use Rattle.dm_central.specs.Bodies.{Known, closed_numbers, frame_stage, CallsInPlace}
use Rattle.dm_central.specs.NodeSteps.{new_scene, MeanTheSame}
use Rattle.dm_central.specs.Outcomes.{AgreesBehind, AreSafe, StepAgrees, IsClaimed, IsReady, IsEvaluatedAtOnce, Met as MetTree}
use Rattle.dm_central.specs.StateAgreement.{DefinitionFits, IsHeld, stored_entry, AreEntered, AreMissing, TopAgrees, CallersAgree, Beginning, Evaluating, Returning, Phase, WaitsIn, InsideAgrees, Related, worlds_after, GoesWithin, Met, IsSteady}
use Rattle.dm_central.proofs.BehindLemmas.{changes_fewer, entered_kept, changes_left}
use Rattle.dm_central.proofs.BodyLemmas.{likeness}
use Rattle.dm_central.proofs.CallFrameLemmas.{frame_objects, frame_tasks, frame_memory, definition_fits}
use Rattle.dm_central.proofs.CallLemmas.{filled_no_more}
use Rattle.dm_central.proofs.DiagramLemmas.{run_matched, read_met}
use Rattle.dm_central.proofs.LeftLemmas.{at_least, less_still, step_fits, some_left, none_left, real_left, inside_not_outside, smaller_still}
use Rattle.dm_central.proofs.FactLemmas.{fewer_locks, reading_locks, reading_to_do}
use Rattle.dm_central.proofs.OutcomeLemmas.{changes_none}
use Rattle.dm_central.proofs.WithinLemmas.{EvaluatedWithin, evaluated_within}
use Rattle.dm_central.proofs.PartLemmas.{part_first, value_avoids}
use Rattle.dm_central.proofs.TopLemmas.{same_worlds, more_worlds, found_number, top_begun, top_enough}

goes_one : (program : Program) (s t : State) → Step program s t → Goes (machine_of program) 1 s t
unfolding Goes
goes_one program s t step = (t, step, refl)

pub claimed : (stage : Stage) (world : World) (effects : List Effect) (value : Value) (stood : Stood) → IsHeld stage world effects value stood → IsClaimed stage world value stood
claimed stage world effects value a_value h = tt
claimed stage world effects value (a_tree tree) h =
    (h.0, λ found e. ap (λ (x : Computed). x.result) (some_is_some found h.2.0 (sym e ∙ h.2.1)) ∙ h.2.2)

module _ (change : Called) (known : Known) (calling : CallsInPlace change known) (names : ℕ → ℕ) (other : State) (fresh : IsFresh names other.world.memory) (stands : other.standing ≡ going) (function : ℕ) (first : List Stored)
    (spare : Spare) (starts : List World) (steady : IsSteady change known starts other) (caller : Caller) (others : List Caller) (run : Run) (hole : Hole) (is_open : IsOpen hole)
    (waits : WaitsIn change known spare starts caller others other (filled_in hole run)) (origin : World) (missing : AreMissing origin first) (below : (start : World) → IsAmong start starts → AreMissing start first) (effects : List Effect)
    (since : ChangesOnly (frame_stage change known other.statics other.frame.objects) effects origin other.world)
    (less : IsNoMore (frame_stage change known other.statics other.frame.objects) effects (effects_of (frame_stage change known other.statics other.frame.objects) run))
    (holes : AgreesBehind change (frame_stage change known other.statics other.frame.objects) (outside known.safe) origin [] effects caller.kind caller.hole hole) (entries : List Entry)
    (entered : AreEntered (frame_stage change known other.statics other.frame.objects) other.world (effects_of (frame_stage change known other.statics other.frame.objects) run) entries first) (held : AreHeld change first)
    (v w : ℕ) (enough : share change (hole_left caller.hole) + v ≤ w)
    (found : (entry : Stored) → IsAmong entry first → look_up other.world.memory entry.stored ≡ Some (parameter_block change entry.parameter entry.value))
    (free : (entry : Stored) → IsAmong entry first → (locks : List At) → AreAmong locks (locks_in (filled_in hole run)) → overlaps_any (whole (numbered entry.stored)) locks ≡ false) where
  abbrev stage : Stage
  stage = frame_stage change known other.statics other.frame.objects

  abbrev in_world : List Task → World → State
  in_world tasks world = record {
    standing = other.standing;
    frame = record { function = function; objects = objects_in first; tasks = tasks };
    callers = caller ∷ others;
    statics = renamed_objects change.rename other.statics;
    world = world;
  }

  abbrev in_added : List Task → State
  in_added tasks = in_world tasks other.world

  abbrev all_spare : Spare
  all_spare = first ∷ spare

  abbrev whole_run : Run
  whole_run = filled_in hole run

  abbrev inner_objects : Objects
  inner_objects = renamed_objects change.rename other.statics ++ objects_in first

  abbrev Found : State → Type 0
  Found state = Met change known w all_spare starts other state

  abbrev same_starts : worlds_after starts other.world other.callers other.callers ≡ starts
  same_starts = same_worlds starts other.world other.callers

  among_next : (y : State) → IsAmong y (expression_steps change.old names other waits.rest waits.place waits.use_of whole_run) → IsAmong y (next names change.old other)
  among_next y h =
      subst (λ standing. IsAmong y (steps_from standing (task_steps change.old names other (unfolded other.frame.tasks)))) (sym stands)
      (subst (λ tasks. IsAmong y (task_steps change.old names other tasks)) (sym waits.evaluating) h)

  goes_wrong : (y : State) → IsAmong y (next names change.old other) → (cause : Cause) (place : Place) → y.standing ≡ undefined cause place → GoesWrong (machine_of change.old) other
  goes_wrong y among cause place e = (1, y, goes_one change.old other y (names, fresh, among), cause, place, e)

  -- the old program with another tree in place of the call
  abbrev old_with : List Task → World → State
  old_with tasks world = record other { frame = record other.frame { tasks = tasks }; world = world }

  inside_record : (old_tasks : List Task) (world : World) (after : Run) → unfolded old_tasks ≡ evaluates waits.place (filled_in hole after) waits.use_of ∷ waits.rest → ChangesOnly stage (effects_of stage run) other.world world
      → IsNoMore stage (effects_of stage run) (effects_of stage after) → (tasks : List Task) (u b : ℕ) → Phase change stage world u entries tasks caller.kind after → share change (hole_left caller.hole) + u ≤ b
      → InsideAgrees change known b first spare starts (in_world tasks world) (old_with old_tasks world)
  inside_record old_tasks world after evaluating changed fewer tasks u b phase left = record {
    standing = refl;
    objects = refl;
    caller = caller;
    others = others;
    callers = refl;
    run = after;
    hole = hole;
    opened = is_open;
    waits = record {
      place = waits.place;
      use_of = waits.use_of;
      rest = waits.rest;
      evaluating = evaluating;
      function = waits.function;
      objects = waits.objects;
      tasks = waits.tasks;
      few = waits.few;
      uses = waits.uses;
      callers = waits.callers;
    };
    origin = origin;
    missing = missing;
    below = below;
    effects = effects;
    since = changes_join stage effects origin other.world world since (changes_fewer stage effects (effects_of stage run) other.world world less changed);
    less = λ n f. fewer n (less n f);
    holes = holes;
    entries = entries;
    entered = entered_kept stage other.world world (effects_of stage run) (effects_of stage after) entries first changed fewer entered;
    left = u;
    phase = phase;
    enough = left;
    held = held;
    statics = refl;
    world = refl;
  }

  -- what is left in it, after a step of the old program
  real_enough : share change (hole_left caller.hole) + (size change + 5) ≤ most change
  real_enough = most_inside change (hole_left caller.hole) (size change + 5) waits.few (at_least (size change + 5))

  -- the old program stays where it is
  stays_inside : (u : ℕ) (tasks : List Task) → u + 1 ≤ v → Phase change stage other.world u entries tasks caller.kind run → Found (in_added tasks)
  stays_inside u tasks fewer phase =
      inr (inr (inr (inl (
        share change (hole_left caller.hole) + u,
        some_left (share change (hole_left caller.hole)) u v w fewer enough,
        inr (
          first,
          spare,
          refl,
          inl (inside_record other.frame.tasks other.world run waits.evaluating (changes_none stage (effects_of stage run) other.world) (λ n f. f) tasks u (share change (hole_left caller.hole) + u) phase
              (at_least (share change (hole_left caller.hole) + u))),
        ),
      ))))

  -- the body begins
  beginning_met : (tasks : List Task) → Beginning change stage other.world v entries tasks caller.kind run → (state : State) → IsAmong state (task_steps (new_of change) names (in_added tasks) (unfolded tasks)) → Found state
  beginning_met tasks h state k =
      at_return (subst (λ ts. IsAmong state (task_steps (new_of change) names (in_added ts) (unfolded ts))) h.is k)
    where
      at_return : IsAmong state (task_steps (new_of change) names (in_added (begins (node return h.return_kind h.return_spans (more_trees change.body no_trees)) ∷ []))
          (begins (node return h.return_kind h.return_spans (more_trees change.body no_trees)) ∷ [])) → Found state
      at_return (inl e) =
          subst Found (sym e)
          (stays_inside (size change + 2) (evaluates (place_of change.body) (begun change.body) returns ∷ []) (omega (arith, h.left)) (inr (inl (record {
            place = place_of change.body;
            now = begun change.body;
            is = refl;
            agrees = h.agrees;
            few = at_least (size change);
            left = at_least (size change + 2);
            yields = subst (λ t. Yields t (begun change.body)) (sym h.typed) (begun_yields change.body calling.added.gives);
          }))))
      at_return (inr e) = absurd e

  -- the expression only names closed objects
  shut : AllFirst stage other.world (locks_in whole_run) run
  shut = part_first stage other.world (locks_in whole_run) steady.avoids hole run is_open (λ n c. inl (steady.closed waits.place whole_run waits.use_of waits.rest waits.evaluating n c))

  -- the value is returned
  returning_met : (tasks : List Task) → Returning v tasks caller.kind run → (state : State) → IsAmong state (task_steps (new_of change) names (in_added tasks) (unfolded tasks)) → Found state
  returning_met tasks h state k =
      at_end (subst (λ ts. IsAmong state (task_steps (new_of change) names (in_added ts) (unfolded ts))) h.is k)
    where
      later : World
      later = record other.world { memory = killed (map (λ entry. entry.1) (objects_in first)) other.world.memory }

      at_end : IsAmong state (task_steps (new_of change) names (in_added (hands_back h.value ∷ [])) (hands_back h.value ∷ [])) → Found state
      at_end (inl e) =
          let back = in_added (hands_back h.value ∷ []) in
          subst Found (sym (e ∙ ap (λ b. if b then record back { standing = undefined NoValue caller.place } else gone_back back h.value caller others) h.given_value))
          (inr (inr (inr (inr (inr (record {
            first = first;
            rest = spare;
            is = refl;
            below = below;
            left = share change (hole_left caller.hole);
            less = none_left (share change (hole_left caller.hole)) v w h.left enough;
            related = inl (
              subst (λ n. share change n ≤ share change (hole_left caller.hole)) (sym (filled_left caller.hole (done caller.kind (of_value h.value) []) refl)) (at_least (share change (hole_left caller.hole))),
              record {
                standing = refl;
                function = waits.function;
                objects = waits.objects;
                tasks =
                    subst (λ ts. TopAgrees change known other.statics other.frame.objects later (evaluates caller.place (filled_in caller.hole (done caller.kind (of_value h.value) [])) caller.use_of ∷ caller.frame.tasks) ts)
                    (sym (waits.evaluating ∙ ap (λ r. evaluates waits.place (filled_in hole r) waits.use_of ∷ waits.rest) h.result)) (
                      (
                        inr (
                          holes later (changes_left stage effects origin other.world first missing since) h.value h.locks h.given_value
                              (value_avoids stage other.world (locks_in whole_run) caller.kind h.value h.locks (subst (AllFirst stage other.world (locks_in whole_run)) h.result shut))
                              (subst (λ r. IsNoMore stage effects (effects_of stage r)) h.result less),
                          subst (λ n. n ≤ limit change) (sym (filled_left caller.hole (done caller.kind (of_value h.value) []) refl)) waits.few,
                        ),
                        waits.uses,
                      ),
                      waits.tasks,
                    );
                callers = waits.callers;
                statics = refl;
                world = refl;
              },
            );
          }))))))
      at_end (inr e) = absurd e

  -- ---- a function is called

  called_inside : (kind : CType) (place : Place) (inner_hole inner : Hole) (arguments : List Value) (g : ℕ) → AgreesBehind change stage (inside entries) other.world [] (call_effects known.quiet (Some g)) kind inner_hole inner
      → LeavesNoMore stage (effects_of stage run) (calls g arguments kind inner) → hole_left inner_hole ≤ size change → HoleYields caller.kind kind inner_hole
      → (definition other_definition : Option Definition) → definition_of change.old g ≡ other_definition → OptionAgrees (DefinitionFits change known) definition other_definition
      → IsAmong (opened change.old names other waits.rest waits.place waits.use_of kind (hole_in hole inner) arguments other_definition) (next names change.old other)
      → (tasks : List Task) → Found (opened (new_of change) names (in_added tasks) [] place returns kind inner_hole arguments definition)
  called_inside kind place inner_hole inner arguments g h shrunk few y None None e k among tasks = inl (goes_wrong _ among External waits.place refl)
  called_inside kind place inner_hole inner arguments g h shrunk few y None (Some definition) e k among tasks = absurd k
  called_inside kind place inner_hole inner arguments g h shrunk few y (Some definition) None e k among tasks = absurd k
  called_inside kind place inner_hole inner arguments g h shrunk few y (Some definition) (Some other_definition) e k among tasks =
      let state_later = opened change.old names other waits.rest waits.place waits.use_of kind (hole_in hole inner) arguments (Some other_definition) in
      let own_caller : Caller = record { frame = record { function = other.frame.function; objects = other.frame.objects; tasks = waits.rest }; place = waits.place; kind = kind; hole = hole_in hole inner; use_of = waits.use_of } in
      let same = found_number change.old.functions g other_definition e in
      let tasks_agree = top_begun change known state_later.statics state_later.frame.objects state_later.world _ _ (unfolded_agree change (likeness change known calling) _ _ (frame_tasks change known calling names definition other_definition k)) in
      inr (inl (record {
        last = state_later;
        step = (names, fresh, among);
        related = inl (
          top_enough change known state_later.statics state_later.frame.objects state_later.world _ _ tasks_agree,
          record {
            standing = refl;
            function = k.0.0;
            objects = frame_objects change known calling names definition other_definition k;
            tasks = tasks_agree;
            callers =
                subst (λ ws. CallersAgree change known other.statics all_spare ws other_definition.function
                (record { frame = record { function = function; objects = objects_in first; tasks = [] }; place = place; kind = kind; hole = inner_hole; use_of = returns } ∷ caller ∷ others) (own_caller ∷ other.callers))
                (sym (more_worlds starts other.world other.callers own_caller)) (inr (
                  first,
                  spare,
                  refl,
                  record {
                    objects = refl;
                    tasks = refl;
                    use_of = refl;
                    kind = refl;
                    outer = hole;
                    inner = inner;
                    hole = refl;
                    opened = is_open;
                    entries = entries;
                    agrees = subst (λ f. AgreesBehind change stage (inside entries) other.world [] (call_effects known.quiet (Some f)) kind inner_hole inner) (sym same) h;
                    few = few;
                    held = held;
                    origin = origin;
                    missing = missing;
                    below = below;
                    effects = effects;
                    since = since;
                    own = effects_of stage run;
                    less = less;
                    entered = entered;
                    within = subst (λ f. IsNoMore stage (effects_of stage run) (call_effects known.quiet (Some f))) (sym same) (λ n f effect l. f effect (shrunk.0 effect l));
                    behind = λ value locks c. shrunk.1 value locks (subst (λ f. IsNoMore stage (call_effects known.quiet (Some f)) (lock_effects locks)) same c);
                    beyond = holes;
                    few_beyond = waits.few;
                    yields = y;
                    caller_function = waits.function;
                    caller_objects = waits.objects;
                    caller_tasks = waits.tasks;
                    caller_use = waits.uses;
                  },
                  waits.callers,
                ));
            statics = refl;
            world = ap (λ m. record { memory = m; input = other.world.input; output = other.world.output }) (frame_memory change known calling names definition other_definition arguments other.world.memory k);
          },
        );
      }))

  called_inside_by : (place : Place) (f g : ℕ) (arguments values : List Value) (kind other_kind : CType) (inner_hole inner : Hole) → f ≡ change.rename g → arguments ≡ values → kind ≡ other_kind
      → AgreesBehind change stage (inside entries) other.world [] (call_effects known.quiet (Some g)) kind inner_hole inner → LeavesNoMore stage (effects_of stage run) (calls g values other_kind inner) → hole_left inner_hole ≤ size change
      → HoleYields caller.kind kind inner_hole
      → IsAmong (opened change.old names other waits.rest waits.place waits.use_of other_kind (hole_in hole inner) values (definition_of change.old g)) (next names change.old other)
      → (tasks : List Task) → Found (opened (new_of change) names (in_added tasks) [] place returns kind inner_hole arguments (definition_of (new_of change) f))
  called_inside_by place f g arguments values kind other_kind inner_hole inner e a t h shrunk few y among tasks =
      subst (λ d. Found (opened (new_of change) names (in_added tasks) [] place returns kind inner_hole arguments (definition_of (new_of change) d))) (sym e)
      (subst (λ l. Found (opened (new_of change) names (in_added tasks) [] place returns kind inner_hole l (definition_of (new_of change) (change.rename g)))) (sym a)
      (called_inside kind place inner_hole inner values g h (subst (λ t'. LeavesNoMore stage (effects_of stage run) (calls g values t' inner)) (sym t) shrunk) few y (definition_of (new_of change) (change.rename g)) (definition_of change.old g) refl
      (definition_fits change known calling g)
      (subst (λ t'. IsAmong (opened change.old names other waits.rest waits.place waits.use_of t' (hole_in hole inner) values (definition_of change.old g)) (next names change.old other)) (sym t) among) tasks))

  -- ---- a step of its expression

  abbrev PartAt : Run → Type 0
  PartAt now = RunAgrees change stage (inside entries) other.world [] now run ⊎ IsReading change (inside entries) now run

  inside_moved : (place : Place) (present : Run) → PartAt present → left_in present ≤ size change → Yields caller.kind present → (m x : Move Run Hole) → StepAgrees change stage (inside entries) other.world [] m x
      → IsAmong x (moves stage.scene other.world (locks_in whole_run) run) → MoveYields caller.kind m → LeavesLess (left_in present) m
      → IsAmong (moved change.old names other waits.rest waits.place waits.use_of (lifted (filled_in hole) (hole_in hole) x)) (next names change.old other)
      → Found (moved (new_of change) names (in_added (evaluates place present returns ∷ [])) [] place returns m)
  inside_moved place present agrees few yields m (fails cause there) h step y l among = inl (goes_wrong _ among cause there refl)
  inside_moved place present agrees few yields (goes world next_run) (goes other_world other_run) h step y l among =
      let still_few = less_still (left_in next_run) (left_in present) (size change) l few in
      let shrunk = run_calm stage other.world (locks_in whole_run) steady.avoids run shut (goes other_world other_run) step in
      subst (λ x. Found (in_world (evaluates place next_run returns ∷ []) x)) (sym h.0)
      (inr (inl (record {
        last = old_with (evaluates waits.place (filled_in hole other_run) waits.use_of ∷ waits.rest) other_world;
        step = (names, fresh, among);
        related = subst (λ ws. Related change known (most change) all_spare ws (in_world (evaluates place next_run returns ∷ []) other_world) (old_with (evaluates waits.place (filled_in hole other_run) waits.use_of ∷ waits.rest) other_world)) (sym same_starts) (inr (
          first,
          spare,
          refl,
          inl (inside_record (evaluates waits.place (filled_in hole other_run) waits.use_of ∷ waits.rest) other_world other_run refl (step_keeps stage other.world (locks_in whole_run) run other_run other_world step) shrunk
              (evaluates place next_run returns ∷ []) (size change + 5) (most change)
              (inr (inl (record {
                place = place;
                now = next_run;
                is = refl;
                agrees = inl (subst (λ x. RunAgrees change stage (inside entries) x [] next_run other_run) h.0 h.1);
                few = still_few;
                left = real_left (left_in next_run) (size change) still_few;
                yields = y;
              }))) real_enough),
        ));
      })))
  inside_moved place present agrees few yields (goes world next_run) (calls g values kind inner) h step y l among = absurd h
  inside_moved place present agrees few yields (goes world next_run) (exits status) h step y l among = absurd h
  inside_moved place present agrees few yields (calls f arguments kind inner_hole) (calls g values other_kind inner) h step y l among =
      called_inside_by place f g arguments values kind other_kind inner_hole inner h.0 h.1 h.2 h.3 (run_calm stage other.world (locks_in whole_run) steady.avoids run shut (calls g values other_kind inner) step)
      (less_still (hole_left inner_hole) (left_in present) (size change) l few) y among (evaluates place present returns ∷ [])
  inside_moved place present agrees few yields (calls f arguments kind inner_hole) (goes other_world other_run) h step y l among = absurd h
  inside_moved place present agrees few yields (calls f arguments kind inner_hole) (exits status) h step y l among = absurd h
  inside_moved place present agrees few yields (fails cause at) (goes other_world other_run) h step y l among = absurd h
  inside_moved place present agrees few yields (fails cause at) (calls g values kind inner) h step y l among = absurd h
  inside_moved place present agrees few yields (fails cause at) (exits status) h step y l among = absurd h
  inside_moved place present agrees few yields (exits status) (exits other_status) h step y l among =
      inr (inl (record {
        last = record other { standing = exited other_status };
        step = (names, fresh, among);
        related = subst (λ ws. Related change known (most change) all_spare ws (record (in_added (evaluates place present returns ∷ [])) { standing = exited status }) (record other { standing = exited other_status })) (sym same_starts) (inr (
          first,
          spare,
          refl,
          inl (record {
            standing = ap exited h;
            objects = refl;
            caller = caller;
            others = others;
            callers = refl;
            run = run;
            hole = hole;
            opened = is_open;
            waits = record {
              place = waits.place;
              use_of = waits.use_of;
              rest = waits.rest;
              evaluating = waits.evaluating;
              function = waits.function;
              objects = waits.objects;
              tasks = waits.tasks;
              few = waits.few;
              uses = waits.uses;
              callers = waits.callers;
            };
            origin = origin;
            missing = missing;
            below = below;
            effects = effects;
            since = since;
            less = less;
            holes = holes;
            entries = entries;
            entered = entered;
            left = size change + 5;
            phase = inr (inl (record { place = place; now = present; is = refl; agrees = agrees; few = few; left = real_left (left_in present) (size change) few; yields = yields }));
            enough = real_enough;
            held = held;
            statics = refl;
            world = refl;
          }),
        ));
      }))
  inside_moved place present agrees few yields (exits status) (goes other_world other_run) h step y l among = absurd h
  inside_moved place present agrees few yields (exits status) (calls g values kind inner) h step y l among = absurd h

  -- a step of the old program that meets it
  old_step : (x : Move Run Hole) → IsAmong x (moves stage.scene other.world (locks_in whole_run) run)
      → IsAmong (moved change.old names other waits.rest waits.place waits.use_of (lifted (filled_in hole) (hole_in hole) x)) (next names change.old other)
  old_step x among =
      among_next _ (step_of_expression change.old names other waits.rest waits.place waits.use_of whole_run (lifted (filled_in hole) (hole_in hole) x)
      (move_lifts stage.scene other.world (locks_in whole_run) hole run x is_open among))

  -- its parameters may be read
  all_ready : (locks : List At) → AreAmong locks (locks_in whole_run) → (entry : Entry) → IsAmong entry entries → IsReady change inner_objects stage other.world locks entry
  all_ready locks fewer entry l =
      let k = entered.among entry l in
      record {
        named = own_named change.rename other.statics (objects_in first) entry.parameter (held.own (stored_entry entry) k) ∙ held.named (stored_entry entry) k;
        found = found (stored_entry entry) k;
        free = free (stored_entry entry) k locks fewer;
        set = held.set (stored_entry entry) k;
        claimed = claimed stage other.world (effects_of stage run) entry.value entry.stood (entered.held entry l);
      }

  -- all steps of an untouched argument
  module _ (place : Place) (next_run : Run) (fewer : left_in next_run + 1 ≤ size change) (left : (left_in next_run + 2) + 1 ≤ v) (yields : Yields caller.kind next_run) (inner : Hole) (inner_open : IsOpen inner) (tree : Run) (value : Value)
      (is : run ≡ filled_in inner tree) (no_name : target_effects stage.scene.objects tree ≡ on_others ∷ [])
      (agrees : RunAgrees change stage (inside entries) other.world [] next_run (filled_in inner (done (kind_of_run tree) (of_value value) []))) where
    abbrev settled : Run
    settled = filled_in inner (done (kind_of_run tree) (of_value value) [])

    evaluated_phase : (u : ℕ) → left_in next_run + 2 ≤ u → Phase change stage other.world u entries (evaluates place next_run returns ∷ []) caller.kind settled
    evaluated_phase u few = inr (inl (record { place = place; now = next_run; is = refl; agrees = inl agrees; few = less_still (left_in next_run) (size change) (size change) fewer (at_least (size change)); left = few; yields = yields }))

    shrunk_there : IsNoMore stage (effects_of stage run) (effects_of stage settled)
    shrunk_there = subst (λ r. IsNoMore stage (effects_of stage r) (effects_of stage settled)) (sym is) (filled_no_more stage tree (kind_of_run tree) value [] no_name (λ n f effect l. absurd l) inner inner_open)

    related_there : (tasks : List Task) → unfolded tasks ≡ evaluates waits.place (filled_in hole settled) waits.use_of ∷ waits.rest → (u b : ℕ) → left_in next_run + 2 ≤ u → share change (hole_left caller.hole) + u ≤ b
        → Related change known b all_spare starts (in_added (evaluates place next_run returns ∷ [])) (old_with tasks other.world)
    related_there tasks evaluating u b few enough_there =
        inr (first, spare, refl, inl (inside_record tasks other.world settled evaluating (changes_none stage (effects_of stage run) other.world) shrunk_there (evaluates place next_run returns ∷ []) u b (evaluated_phase u few) enough_there))

    by_count : (count : ℕ) (last : State) (tasks : List Task) → GoesWithin change.old count other last → last ≡ old_with tasks other.world
        → unfolded tasks ≡ evaluates waits.place (filled_in hole settled) waits.use_of ∷ waits.rest → Found (in_added (evaluates place next_run returns ∷ []))
    by_count zero last tasks leads same evaluating =
        inr (inr (inr (inl (
          share change (hole_left caller.hole) + (left_in next_run + 2),
          some_left (share change (hole_left caller.hole)) (left_in next_run + 2) v w left enough,
          subst (Related change known (share change (hole_left caller.hole) + (left_in next_run + 2)) all_spare starts (in_added (evaluates place next_run returns ∷ []))) (sym (leads ∙ same))
              (related_there tasks evaluating (left_in next_run + 2) (share change (hole_left caller.hole) + (left_in next_run + 2)) (at_least (left_in next_run + 2)) (at_least (share change (hole_left caller.hole) + (left_in next_run + 2)))),
        ))))
    by_count (suc count) last tasks leads same evaluating =
        inr (inr (inl (record {
          count = count;
          last = last;
          goes = leads;
          related =
              subst (Related change known (most change) all_spare starts (in_added (evaluates place next_run returns ∷ []))) (sym same)
              (related_there tasks evaluating (size change + 5) (most change) (real_left (left_in next_run) (size change) (less_still (left_in next_run) (size change) (size change) fewer (at_least (size change)))) real_enough);
        })))

    evaluated_there : EvaluatedWithin change.old waits.place (hole_in hole inner) waits.use_of waits.rest other tree → ((known_result : Computed) → computed stage.scene other.world tree ≡ Some known_result → known_result.result ≡ of_value value)
        → Found (in_added (evaluates place next_run returns ∷ []))
    evaluated_there h comes =
        by_count h.count h.later h.still.tasks h.leads h.still.is
        (h.still.evaluating ∙ ap (λ r. evaluates waits.place r waits.use_of ∷ waits.rest) (filled_twice hole inner (done (kind_of_run tree) h.found.result []))
        ∙ ap (λ r. evaluates waits.place (filled_in hole (filled_in inner (done (kind_of_run tree) r []))) waits.use_of ∷ waits.rest) (comes h.found h.is))

  -- the expression, or the end of its evaluation
  evaluated_met : (place : Place) (now : Run) → PartAt now → left_in now ≤ size change → Yields caller.kind now → left_in now + 2 ≤ v
      → (state : State) → IsAmong state (expression_steps (new_of change) names (in_added (evaluates place now returns ∷ [])) [] place returns now) → Found state
  evaluated_met place (done kind result locks) agrees few yields left state (inl e) =
      subst Found (sym e)
      (stays_inside 1 (hands_back (value_of result) ∷ []) left (inr (inr (by_result run agrees))))
    where
      by_result : (other_run : Run) → RunAgrees change stage (inside entries) other.world [] (done kind result locks) other_run ⊎ IsReading change (inside entries) (done kind result locks) other_run → Returning 1 (hands_back (value_of result) ∷ []) caller.kind other_run
      by_result other_run (inr h) = absurd (reading_to_do change (inside entries) (done kind result locks) other_run h)
      by_result (done other_kind other_result other_locks) (inl h) = record {
        value = yields.1;
        locks = other_locks;
        is = ap (λ r. hands_back (value_of r) ∷ []) yields.2;
        result = ap (λ k. done k other_result other_locks) (sym h.0 ∙ yields.0) ∙ ap (λ r. done caller.kind r other_locks) (sym h.1 ∙ yields.2);
        given_value = ap (λ k. lacks_value k yields.1) (sym yields.0) ∙ yields.3;
        left = at_least 1;
      }
      by_result (to_do doing other_kind at parts) (inl h) = absurd h
  evaluated_met place (done kind result locks) agrees few yields left state (inr e) = absurd e
  evaluated_met place (to_do doing kind here_at parts) agrees few yields left state k =
      let now = to_do doing kind here_at parts in
      let from = among-map_from (moved (new_of change) names (in_added (evaluates place now returns ∷ [])) [] place returns) state _ k in
      let fewer : AreAmong (locks_in now) (locks_in whole_run) = λ lock l. locks_lift hole run lock (part_fewer now agrees lock l) in
      subst Found (sym from.2)
      (by_part from.0 (move_yields_on (new_scene change inner_objects) other.world (locks_in now) caller.kind now yields from.0 from.1) (move_leaves (new_scene change inner_objects) other.world (locks_in now) now from.0 from.1)
      agrees fewer from.1)
    where
      part_fewer : (now : Run) → PartAt now → AreAmong (locks_in now) (locks_in run)
      part_fewer now (inl h) = fewer_locks change calling.added stage (inside entries) other.world [] now run h
      part_fewer now (inr h) = reading_locks change (inside entries) now run h

      same_names : MeanTheSame change (inside entries) inner_objects (other.statics ++ other.frame.objects)
      same_names d allowed = same_named change.old change.rename calling.injective other steady.names (objects_in first) d (none_named change.rename first held.own d) allowed

      not_safe : (locks : List At) (effects : List Effect) (here : Run) → AreSafe stage (inside entries) other.world locks effects here
      not_safe locks effects here safe e = absurd (inside_not_outside entries safe e)

      stays : (m : Move Run Hole) → MoveYields caller.kind m → LeavesLess (left_in (to_do doing kind here_at parts)) m → (next_run : Run) → m ≡ goes other.world next_run → PartAt next_run
          → Found (moved (new_of change) names (in_added (evaluates place (to_do doing kind here_at parts) returns ∷ [])) [] place returns m)
      stays m y l next_run e still =
          let fewer = subst (LeavesLess (left_in (to_do doing kind here_at parts))) e l in
          subst (λ z. Found (moved (new_of change) names (in_added (evaluates place (to_do doing kind here_at parts) returns ∷ [])) [] place returns z)) (sym e)
          (stays_inside (left_in next_run + 2) (evaluates place next_run returns ∷ []) (step_fits (left_in next_run) (left_in (to_do doing kind here_at parts)) v fewer left) (inr (inl (record {
            place = place;
            now = next_run;
            is = refl;
            agrees = still;
            few = less_still (left_in next_run) (left_in (to_do doing kind here_at parts)) (size change) fewer few;
            left = at_least (left_in next_run + 2);
            yields = subst (MoveYields caller.kind) e y;
          }))))

      at_once : (m : Move Run Hole) → MoveYields caller.kind m → LeavesLess (left_in (to_do doing kind here_at parts)) m → IsEvaluatedAtOnce change stage (inside entries) other.world [] run m
          → Found (moved (new_of change) names (in_added (evaluates place (to_do doing kind here_at parts) returns ∷ [])) [] place returns m)
      at_once m y l s =
          let fewer = subst (LeavesLess (left_in (to_do doing kind here_at parts))) s.goes_on l in
          subst (λ z. Found (moved (new_of change) names (in_added (evaluates place (to_do doing kind here_at parts) returns ∷ [])) [] place returns z)) (sym s.goes_on)
          (by_either (evaluated_within change.old waits.place (hole_in hole s.hole) waits.use_of waits.rest other s.tree names fresh
          (record {
            stands = stands;
            opened = opened_twice hole s.hole is_open s.opened;
            evaluating = waits.evaluating ∙ ap (λ r. evaluates waits.place (filled_in hole r) waits.use_of ∷ waits.rest) s.is ∙ ap (λ r. evaluates waits.place r waits.use_of ∷ waits.rest) (sym (filled_twice hole s.hole s.tree));
          }) s.pure))
        where
          by_either : GoesWrong (machine_of change.old) other ⊎ EvaluatedWithin change.old waits.place (hole_in hole s.hole) waits.use_of waits.rest other s.tree → Found (in_added (evaluates place s.run returns ∷ []))
          by_either (inl wrong) = inl wrong
          by_either (inr h) =
              let fewer = subst (LeavesLess (left_in (to_do doing kind here_at parts))) s.goes_on l in
              evaluated_there place s.run (smaller_still (left_in s.run) (left_in (to_do doing kind here_at parts)) (size change) fewer few) (step_fits (left_in s.run) (left_in (to_do doing kind here_at parts)) v fewer left) (subst (MoveYields caller.kind) s.goes_on y)
              s.hole s.opened s.tree s.value s.is s.no_name s.agrees h s.comes

      by_match : (m : Move Run Hole) → MoveYields caller.kind m → LeavesLess (left_in (to_do doing kind here_at parts)) m → MetTree change stage (inside entries) other.world (locks_in whole_run) [] run m
          → Found (moved (new_of change) names (in_added (evaluates place (to_do doing kind here_at parts) returns ∷ [])) [] place returns m)
      by_match m y l (inl s) = inside_moved place (to_do doing kind here_at parts) agrees few yields m s.step s.agrees s.among y l (old_step s.step s.among)
      by_match m y l (inr (inl s)) = stays m y l s.run s.is (inl s.agrees)
      by_match m y l (inr (inr (inl s))) = at_once m y l s
      by_match m y l (inr (inr (inr (inl f)))) =
          inl (wrong_met change.old waits.place (hole_in hole f.hole) waits.use_of waits.rest other f.tree
          (record {
            stands = stands;
            opened = opened_twice hole f.hole is_open f.opened;
            evaluating = waits.evaluating ∙ ap (λ r. evaluates waits.place (filled_in hole r) waits.use_of ∷ waits.rest) f.is ∙ ap (λ r. evaluates waits.place r waits.use_of ∷ waits.rest) (sym (filled_twice hole f.hole f.tree));
          }) f.pure (computed stage.scene other.world f.tree) refl
          (subst (λ r. Meets (locks_in r) (computed stage.scene other.world f.tree)) (ap (filled_in hole) f.is ∙ sym (filled_twice hole f.hole f.tree)) f.meets))
      by_match m y l (inr (inr (inr (inr (inl s))))) = absurd (true≢false s.elsewhere)
      by_match m y l (inr (inr (inr (inr (inr s))))) = absurd (true≢false s.elsewhere)

      by_part : (m : Move Run Hole) → MoveYields caller.kind m → LeavesLess (left_in (to_do doing kind here_at parts)) m → PartAt (to_do doing kind here_at parts)
          → AreAmong (locks_in (to_do doing kind here_at parts)) (locks_in whole_run) → IsAmong m (moves (new_scene change inner_objects) other.world (locks_in (to_do doing kind here_at parts)) (to_do doing kind here_at parts))
          → Found (moved (new_of change) names (in_added (evaluates place (to_do doing kind here_at parts) returns ∷ [])) [] place returns m)
      by_part m y l (inl h) fewer among =
          by_match m y l (run_matched change calling.added inner_objects (other.statics ++ other.frame.objects) (closed_numbers known.closed other.frame.objects) known.quiet (inside entries) same_names other.world
          (locks_in (to_do doing kind here_at parts)) (locks_in whole_run) fewer (all_ready (locks_in (to_do doing kind here_at parts)) fewer) steady.avoids [] (to_do doing kind here_at parts) run h (not_safe (locks_in whole_run) [] run) shut m among)
      by_part m y l (inr h) fewer among =
          by_reading (read_met change calling.added inner_objects (other.statics ++ other.frame.objects) (closed_numbers known.closed other.frame.objects) known.quiet (inside entries) same_names other.world
          (locks_in (to_do doing kind here_at parts)) (locks_in whole_run) fewer (all_ready (locks_in (to_do doing kind here_at parts)) fewer) steady.avoids [] (to_do doing kind here_at parts) run h m among)
        where
          by_reading : MetTree change stage (inside entries) other.world (locks_in whole_run) [] run m ⊎ ((later : Run) × (m ≡ goes other.world later) × IsReading change (inside entries) later run)
              → Found (moved (new_of change) names (in_added (evaluates place (to_do doing kind here_at parts) returns ∷ [])) [] place returns m)
          by_reading (inl met) = by_match m y l met
          by_reading (inr (later, e, still)) = stays m y l later e (inr still)

  evaluating_met : (tasks : List Task) → Evaluating change stage other.world v entries tasks caller.kind run → (state : State) → IsAmong state (task_steps (new_of change) names (in_added tasks) (unfolded tasks)) → Found state
  evaluating_met tasks h state k =
      evaluated_met h.place h.now h.agrees h.few h.yields h.left state (subst (λ ts. IsAmong state (task_steps (new_of change) names (in_added ts) (unfolded ts))) h.is k)

  pub phase_met : (tasks : List Task) → Phase change stage other.world v entries tasks caller.kind run → (state : State) → IsAmong state (task_steps (new_of change) names (in_added tasks) (unfolded tasks)) → Found state
  phase_met tasks (inl h) state k = beginning_met tasks h state k
  phase_met tasks (inr (inl h)) state k = evaluating_met tasks h state k
  phase_met tasks (inr (inr h)) state k = returning_met tasks h state k
