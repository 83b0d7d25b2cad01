-- Each step of the new program in the added function, for a call that is part of an untouched argument: the old program stands still.
use Rattle.std.specs.Prelude.{◌≡◌, refl, ◌⊎◌, ℕ, ◌≤◌, ◌+◌, false, List, [], ◌∷◌, ◌++◌, map, Some, if◌then◌else◌}
use Rattle.std.proofs.Common.{arith, true≢false, ap, sym, ◌∙◌, subst, inl, inr}
use Rattle.dm_token.specs.declared.place.Place.{Place}
use Rattle.dm_tree.specs.Trees.{return, node, no_trees, more_trees}
use Rattle.dm_meaning.specs.declared.cause.Cause.TheVariants.{NoValue}
use Rattle.dm_meaning.specs.Among.{IsAmong}
use Rattle.dm_meaning.specs.Called.{Called, new_of}
use Rattle.dm_meaning.specs.Expressions.{Move, goes, calls, fails, exits, value_of, kind_of_run, moves}
use Rattle.dm_meaning.specs.Extending.{AreAmong}
use Rattle.dm_meaning.specs.Machines.{undefined}
use Rattle.dm_meaning.specs.Memory.{look_up, killed}
use Rattle.dm_meaning.specs.Operations.{of_value, World, Objects, whole}
use Rattle.dm_meaning.specs.Running.{Run, done, to_do, Hole, begun, filled_in, locks_in}
use Rattle.dm_meaning.specs.States.{returns, Task, begins, evaluates, hands_back, Caller, State}
use Rattle.dm_meaning.specs.Statements.{place_of, unfolded}
use Rattle.dm_meaning.specs.Steps.{lacks_value, gone_back, moved, expression_steps, task_steps}
use Rattle.dm_meaning.specs.Values.{At, numbered, Value, overlaps_any}
use Rattle.dm_meaning.proofs.AmongLemmas.{among-map_from}
use Rattle.dm_meaning.proofs.EntryLemmas.{objects_in, none_named, own_named}
use Rattle.dm_meaning.proofs.KnownLemmas.{same_named}
use Rattle.dm_meaning.proofs.MatchLemmas.{parameter_block}
use Rattle.dm_meaning.proofs.OptionLemmas.{some_is_some}
use Rattle.dm_meaning.proofs.PassRunLemmas.{Entry as Stored}
use Rattle.dm_meaning.proofs.PassStateLemmas.{Spare, AreHeld, size}
use Rattle.dm_meaning.proofs.PassStatementLemmas.{limit, share}
use Rattle.dm_meaning.proofs.RunLemmas.{renamed_objects}
use Rattle.dm_meaning.proofs.ShrinkLemmas.{left_in, hole_left, Leaves as LeavesLess, filled_left, move_leaves}
use Rattle.dm_meaning.proofs.YieldLemmas.{begun_yields, Yields, MoveYields, move_yields_on}
use Rattle.dm_rewrite.specs.Closed.{ResultAvoids, IsClosedIn}
use Rattle.dm_rewrite.specs.Computed.{Computed, computed, IsPure}
use Rattle.dm_rewrite.specs.Effects.{Effect, Stage, ChangesOnly}
use Rattle.dm_rewrite.specs.PureSteps.{Meets, StepKeeps}
use Rattle.dm_rewrite.proofs.AsideLemmas.{filled_pure, part_pure}
use Rattle.dm_rewrite.proofs.ClosedRunLemmas.{run_clear}
use Rattle.dm_rewrite.proofs.ComputedLemmas.{pure_locks, computed_step}
use Rattle.dm_central.specs.Agreement.{Entry, outside, inside, IsReading, RunAgrees}
use Rattle.dm_central.specs.Bodies.{Known, closed_numbers, frame_stage, CallsInPlace}
use Rattle.dm_central.specs.NodeSteps.{new_scene, MeanTheSame}
use Rattle.dm_central.specs.Outcomes.{AreSafe, StepAgrees, IsReady, IsEvaluatedAtOnce, Met as MetTree}
use Rattle.dm_central.specs.StateAgreement.{stored_entry, AreEntered, AreMissing, TopAgrees, Beginning, Evaluating, Returning, Phase, WaitsIn, Met, IsSteady}
use Rattle.dm_central.proofs.BehindLemmas.{changes_left}
use Rattle.dm_central.proofs.CallLemmas.{meets_inside, filled_closed}
use Rattle.dm_central.proofs.DiagramLemmas.{run_matched, read_met}
use Rattle.dm_central.proofs.LeftLemmas.{at_least, less_still, step_fits, some_left, none_left, inside_not_outside}
use Rattle.dm_central.proofs.FactLemmas.{fewer_locks, reading_locks, reading_to_do}
use Rattle.dm_central.proofs.GhostLemmas.{ComesToValue, nothing_meets, still_comes, part_comes, part_found, result_avoids}
use Rattle.dm_central.proofs.InsideLemmas.{claimed}
use Rattle.dm_central.proofs.PartLemmas.{part_first, no_place_closed}

same_value : (a b : Value) → of_value a ≡ of_value b → a ≡ b
same_value a b e = cc

module _ (change : Called) (known : Known) (calling : CallsInPlace change known) (names : ℕ → ℕ) (other : State) (function : ℕ) (first : List Stored) (spare : Spare) (starts : List World) (steady : IsSteady change known starts other)
    (caller : Caller) (others : List Caller) (whole_run : Run) (waits : WaitsIn change known spare starts caller others other whole_run) (value : Value) (origin : World) (missing : AreMissing origin first) (below : (start : World) → IsAmong start starts → AreMissing start first)
    (since : ChangesOnly (frame_stage change known other.statics other.frame.objects) [] origin other.world)
    (resumes : (later : World) → ChangesOnly (frame_stage change known other.statics other.frame.objects) [] origin later
    → RunAgrees change (frame_stage change known other.statics other.frame.objects) (outside known.safe) later [] (filled_in caller.hole (done caller.kind (of_value value) [])) whole_run)
    (entries : List Entry) (entered : AreEntered (frame_stage change known other.statics other.frame.objects) other.world [] entries first) (held : AreHeld change first) (v w : ℕ) (enough : share change (hole_left caller.hole) + v ≤ w)
    (found : (entry : Stored) → IsAmong entry first → look_up other.world.memory entry.stored ≡ Some (parameter_block change entry.parameter entry.value)) where
  abbrev stage : Stage
  stage = frame_stage change known other.statics other.frame.objects

  abbrev in_added : List Task → State
  in_added tasks = record {
    standing = other.standing;
    frame = record { function = function; objects = objects_in first; tasks = tasks };
    callers = caller ∷ others;
    statics = renamed_objects change.rename other.statics;
    world = other.world;
  }

  abbrev inner_objects : Objects
  inner_objects = renamed_objects change.rename other.statics ++ objects_in first

  abbrev Found : State → Type 0
  Found state = Met change known w (first ∷ spare) starts other state

  -- what is followed in place of the call
  pub record IsGhost (run : Run) : Type 0 where
    pub pure : IsPure run
    pub closed : (n : ℕ) → IsAmong n stage.closed → IsClosedIn n stage.scene.objects run
    pub comes : ComesToValue stage other.world run value

  stays_aside : (run : Run) → IsGhost run → (u : ℕ) (tasks : List Task) → u + 1 ≤ v → Phase change stage other.world u entries tasks caller.kind run → Found (in_added tasks)
  stays_aside run ghost u tasks fewer phase =
      inr (inr (inr (inl (
        share change (hole_left caller.hole) + u,
        some_left (share change (hole_left caller.hole)) u v w fewer enough,
        inr (
          first,
          spare,
          refl,
          inr (record {
            standing = refl;
            objects = refl;
            caller = caller;
            others = others;
            callers = refl;
            whole = whole_run;
            waits = waits;
            run = run;
            pure = ghost.pure;
            closed = ghost.closed;
            value = value;
            comes = ghost.comes;
            origin = origin;
            missing = missing;
            below = below;
            since = since;
            resumes = resumes;
            entries = entries;
            entered = entered;
            left = u;
            phase = phase;
            enough = at_least (share change (hole_left caller.hole) + u);
            held = held;
            statics = refl;
            world = refl;
          }),
        ),
      ))))

  module _ (run : Run) (ghost : IsGhost run) where
    -- the body begins
    beginning_met : (tasks : List Task) → Beginning change stage other.world v entries tasks caller.kind run → (state : State) → IsAmong state (task_steps (new_of change) names (in_added tasks) (unfolded tasks)) → Found state
    beginning_met tasks h state k =
        at_return (subst (λ ts. IsAmong state (task_steps (new_of change) names (in_added ts) (unfolded ts))) h.is k)
      where
        at_return : IsAmong state (task_steps (new_of change) names (in_added (begins (node return h.return_kind h.return_spans (more_trees change.body no_trees)) ∷ []))
            (begins (node return h.return_kind h.return_spans (more_trees change.body no_trees)) ∷ [])) → Found state
        at_return (inl e) =
            subst Found (sym e)
            (stays_aside run ghost (size change + 2) (evaluates (place_of change.body) (begun change.body) returns ∷ []) (omega (arith, h.left)) (inr (inl (record {
              place = place_of change.body;
              now = begun change.body;
              is = refl;
              agrees = h.agrees;
              few = at_least (size change);
              left = at_least (size change + 2);
              yields = subst (λ t. Yields t (begun change.body)) (sym h.typed) (begun_yields change.body calling.added.gives);
            }))))
        at_return (inr e) = absurd e

    -- the value is returned, which was known
    returning_met : (tasks : List Task) → Returning v tasks caller.kind run → (state : State) → IsAmong state (task_steps (new_of change) names (in_added tasks) (unfolded tasks)) → Found state
    returning_met tasks h state k =
        at_end (subst (λ ts. IsAmong state (task_steps (new_of change) names (in_added ts) (unfolded ts))) h.is k)
      where
        later : World
        later = record other.world { memory = killed (map (λ entry. entry.1) (objects_in first)) other.world.memory }

        the_value : value ≡ h.value
        the_value =
            same_value value h.value
            (sym ghost.comes.2 ∙ ap (λ (x : Computed). x.result) (some_is_some ghost.comes.0 (record { result = of_value h.value; reads = [] }) (sym ghost.comes.1 ∙ ap (computed stage.scene other.world) h.result)))

        at_end : IsAmong state (task_steps (new_of change) names (in_added (hands_back h.value ∷ [])) (hands_back h.value ∷ [])) → Found state
        at_end (inl e) =
            let back = in_added (hands_back h.value ∷ []) in
            subst Found (sym (e ∙ ap (λ b. if b then record back { standing = undefined NoValue caller.place } else gone_back back h.value caller others) h.given_value))
            (inr (inr (inr (inr (inr (record {
              first = first;
              rest = spare;
              is = refl;
              below = below;
              left = share change (hole_left caller.hole);
              less = none_left (share change (hole_left caller.hole)) v w h.left enough;
              related = inl (
                subst (λ n. share change n ≤ share change (hole_left caller.hole)) (sym (filled_left caller.hole (done caller.kind (of_value h.value) []) refl)) (at_least (share change (hole_left caller.hole))),
                record {
                  standing = refl;
                  function = waits.function;
                  objects = waits.objects;
                  tasks =
                      subst (λ ts. TopAgrees change known other.statics other.frame.objects later (evaluates caller.place (filled_in caller.hole (done caller.kind (of_value h.value) [])) caller.use_of ∷ caller.frame.tasks) ts)
                      (sym waits.evaluating) (
                        (
                          inr (
                            subst (λ x. RunAgrees change stage (outside known.safe) later [] (filled_in caller.hole (done caller.kind (of_value x) [])) whole_run) the_value
                                (resumes later (changes_left stage [] origin other.world first missing since)),
                            subst (λ n. n ≤ limit change) (sym (filled_left caller.hole (done caller.kind (of_value h.value) []) refl)) waits.few,
                          ),
                          waits.uses,
                        ),
                        waits.tasks,
                      );
                  callers = waits.callers;
                  statics = refl;
                  world = refl;
                },
              );
            }))))))
        at_end (inr e) = absurd e

    -- ---- a step of its expression

    -- its parameters may be read
    all_ready : (locks : List At) → ((lock : At) → IsAmong lock locks → ⊥) → (entry : Entry) → IsAmong entry entries → IsReady change inner_objects stage other.world locks entry
    all_ready locks none entry l =
        let k = entered.among entry l in
        record {
          named = own_named change.rename other.statics (objects_in first) entry.parameter (held.own (stored_entry entry) k) ∙ held.named (stored_entry entry) k;
          found = found (stored_entry entry) k;
          free = no_overlap locks none;
          set = held.set (stored_entry entry) k;
          claimed = claimed stage other.world [] entry.value entry.stood (entered.held entry l);
        }
      where
        no_overlap : (ls : List At) → ((lock : At) → IsAmong lock ls → ⊥) → overlaps_any (whole (numbered entry.stored)) ls ≡ false
        no_overlap [] h = refl
        no_overlap (lock ∷ ls) h = absurd (h lock (inl refl))

    abbrev PartAt : Run → Type 0
    PartAt now = RunAgrees change stage (inside entries) other.world [] now run ⊎ IsReading change (inside entries) now run

    evaluated_met : (place : Place) (now : Run) → PartAt now → left_in now ≤ size change → Yields caller.kind now → left_in now + 2 ≤ v
        → (state : State) → IsAmong state (expression_steps (new_of change) names (in_added (evaluates place now returns ∷ [])) [] place returns now) → Found state
    evaluated_met place (done kind result locks) agrees few yields left state (inl e) =
        subst Found (sym e)
        (stays_aside run ghost 1 (hands_back (value_of result) ∷ []) left (inr (inr (by_result run agrees))))
      where
        by_result : (other_run : Run) → RunAgrees change stage (inside entries) other.world [] (done kind result locks) other_run ⊎ IsReading change (inside entries) (done kind result locks) other_run → Returning 1 (hands_back (value_of result) ∷ []) caller.kind other_run
        by_result other_run (inr h) = absurd (reading_to_do change (inside entries) (done kind result locks) other_run h)
        by_result (done other_kind other_result other_locks) (inl h) = record {
          value = yields.1;
          locks = other_locks;
          is = ap (λ r. hands_back (value_of r) ∷ []) yields.2;
          result = ap (λ k. done k other_result other_locks) (sym h.0 ∙ yields.0) ∙ ap (λ r. done caller.kind r other_locks) (sym h.1 ∙ yields.2);
          given_value = ap (λ k. lacks_value k yields.1) (sym yields.0) ∙ yields.3;
          left = at_least 1;
        }
        by_result (to_do doing other_kind at parts) (inl h) = absurd h
    evaluated_met place (done kind result locks) agrees few yields left state (inr e) = absurd e
    evaluated_met place (to_do doing kind here_at parts) agrees few yields left state k =
        let now = to_do doing kind here_at parts in
        let from = among-map_from (moved (new_of change) names (in_added (evaluates place now returns ∷ [])) [] place returns) state _ k in
        subst Found (sym from.2)
        (by_part from.0 (move_yields_on (new_scene change inner_objects) other.world (locks_in now) caller.kind now yields from.0 from.1) (move_leaves (new_scene change inner_objects) other.world (locks_in now) now from.0 from.1)
        agrees (λ lock l. subst (IsAmong lock) (pure_locks run ghost.pure) (part_fewer now agrees lock l)) from.1)
      where
        part_fewer : (now : Run) → PartAt now → AreAmong (locks_in now) (locks_in run)
        part_fewer now (inl h) = fewer_locks change calling.added stage (inside entries) other.world [] now run h
        part_fewer now (inr h) = reading_locks change (inside entries) now run h

        same_names : MeanTheSame change (inside entries) inner_objects (other.statics ++ other.frame.objects)
        same_names d allowed = same_named change.old change.rename calling.injective other steady.names (objects_in first) d (none_named change.rename first held.own d) allowed

        not_safe : (locks : List At) (effects : List Effect) (here : Run) → AreSafe stage (inside entries) other.world locks effects here
        not_safe locks effects here safe e = absurd (inside_not_outside entries safe e)

        stays : (m : Move Run Hole) → MoveYields caller.kind m → LeavesLess (left_in (to_do doing kind here_at parts)) m → (next_run later : Run) → m ≡ goes other.world next_run
            → RunAgrees change stage (inside entries) other.world [] next_run later ⊎ IsReading change (inside entries) next_run later → IsGhost later
            → Found (moved (new_of change) names (in_added (evaluates place (to_do doing kind here_at parts) returns ∷ [])) [] place returns m)
        stays m y l next_run later e still still_ghost =
            let fewer = subst (LeavesLess (left_in (to_do doing kind here_at parts))) e l in
            subst (λ z. Found (moved (new_of change) names (in_added (evaluates place (to_do doing kind here_at parts) returns ∷ [])) [] place returns z)) (sym e)
            (stays_aside later still_ghost (left_in next_run + 2) (evaluates place next_run returns ∷ []) (step_fits (left_in next_run) (left_in (to_do doing kind here_at parts)) v fewer left) (inr (inl (record {
              place = place;
              now = next_run;
              is = refl;
              agrees = still;
              few = less_still (left_in next_run) (left_in (to_do doing kind here_at parts)) (size change) fewer few;
              left = at_least (left_in next_run + 2);
              yields = subst (MoveYields caller.kind) e y;
            }))))

        -- a step of what is followed
        by_step : (m x : Move Run Hole) → MoveYields caller.kind m → LeavesLess (left_in (to_do doing kind here_at parts)) m → StepAgrees change stage (inside entries) other.world [] m x → IsAmong x (moves stage.scene other.world [] run)
            → StepKeeps stage.scene other.world [] (kind_of_run run) (computed stage.scene other.world run) x
            → Found (moved (new_of change) names (in_added (evaluates place (to_do doing kind here_at parts) returns ∷ [])) [] place returns m)
        by_step m (calls f arguments own hole) y l h among keeps = absurd keeps
        by_step m (fails cause at) y l h among keeps = absurd (nothing_meets stage other.world run value ghost.comes keeps)
        by_step m (exits status) y l h among keeps = absurd keeps
        by_step (goes world next_run) (goes after later) y l h among keeps =
            stays (goes world next_run) y l next_run later (ap (λ x. goes x next_run) (h.0 ∙ keeps.0)) (inl (subst (λ x. RunAgrees change stage (inside entries) x [] next_run later) (h.0 ∙ keeps.0) h.1)) (record {
              pure = keeps.1;
              closed = λ n c. (run_clear n stage.scene other.world (steady.avoids n c) [] run (ghost.closed n c) (goes after later) among).0;
              comes = still_comes stage other.world run later value ghost.comes keeps.3;
            })
        by_step (calls f arguments own hole) (goes after later) y l h among keeps = absurd h
        by_step (fails cause at) (goes after later) y l h among keeps = absurd h
        by_step (exits status) (goes after later) y l h among keeps = absurd h

        -- all steps of an untouched argument in it
        at_once : (m : Move Run Hole) → MoveYields caller.kind m → LeavesLess (left_in (to_do doing kind here_at parts)) m → IsEvaluatedAtOnce change stage (inside entries) other.world [] run m
            → Found (moved (new_of change) names (in_added (evaluates place (to_do doing kind here_at parts) returns ∷ [])) [] place returns m)
        at_once m y l s =
            let whole_pure = subst IsPure s.is ghost.pure in
            let comes = subst (λ r. ComesToValue stage other.world r value) s.is ghost.comes in
            let part = part_found stage other.world s.hole s.tree value s.opened whole_pure comes in
            let tree_closed : (n : ℕ) → IsAmong n stage.closed → IsClosedIn n stage.scene.objects s.tree =
            λ n c. no_place_closed stage s.tree s.no_name n
            (part_first stage other.world [] steady.avoids s.hole s.tree s.opened (λ m d. inl (subst (IsClosedIn m stage.scene.objects) s.is (ghost.closed m d))) n c) in
            stays m y l s.run (filled_in s.hole (done (kind_of_run s.tree) (of_value s.value) [])) s.goes_on (inl s.agrees) (record {
              pure = filled_pure s.hole s.tree (done (kind_of_run s.tree) (of_value s.value) []) whole_pure refl;
              closed = λ n c.
                  filled_closed n stage.scene.objects s.tree (kind_of_run s.tree) s.value []
                  (subst (ResultAvoids n) (s.comes part.0 part.1) (result_avoids stage other.world steady.avoids s.tree (part_pure s.hole s.tree whole_pure) tree_closed part.0 part.1 n c)) s.hole
                  (subst (IsClosedIn n stage.scene.objects) s.is (ghost.closed n c));
              comes = part_comes stage other.world s.hole s.tree s.value value s.opened whole_pure comes s.comes;
            })

        by_match : (m : Move Run Hole) → MoveYields caller.kind m → LeavesLess (left_in (to_do doing kind here_at parts)) m → MetTree change stage (inside entries) other.world [] [] run m
            → Found (moved (new_of change) names (in_added (evaluates place (to_do doing kind here_at parts) returns ∷ [])) [] place returns m)
        by_match m y l (inl s) = by_step m s.step y l s.agrees s.among (computed_step stage.scene other.world [] run ghost.pure s.step s.among)
        by_match m y l (inr (inl s)) = stays m y l s.run run s.is (inl s.agrees) ghost
        by_match m y l (inr (inr (inl s))) = at_once m y l s
        by_match m y l (inr (inr (inr (inl f)))) =
            absurd (nothing_meets stage other.world run value ghost.comes
            (subst (λ r. Meets [] (computed stage.scene other.world r)) (sym f.is) (meets_inside stage.scene other.world [] f.hole f.opened f.tree (subst IsPure f.is ghost.pure) f.meets)))
        by_match m y l (inr (inr (inr (inr (inl s))))) = absurd (true≢false s.elsewhere)
        by_match m y l (inr (inr (inr (inr (inr s))))) = absurd (true≢false s.elsewhere)

        by_part : (m : Move Run Hole) → MoveYields caller.kind m → LeavesLess (left_in (to_do doing kind here_at parts)) m → PartAt (to_do doing kind here_at parts)
            → AreAmong (locks_in (to_do doing kind here_at parts)) [] → IsAmong m (moves (new_scene change inner_objects) other.world (locks_in (to_do doing kind here_at parts)) (to_do doing kind here_at parts))
            → Found (moved (new_of change) names (in_added (evaluates place (to_do doing kind here_at parts) returns ∷ [])) [] place returns m)
        by_part m y l (inl h) fewer among =
            by_match m y l (run_matched change calling.added inner_objects (other.statics ++ other.frame.objects) (closed_numbers known.closed other.frame.objects) known.quiet (inside entries) same_names other.world
            (locks_in (to_do doing kind here_at parts)) [] fewer (all_ready (locks_in (to_do doing kind here_at parts)) fewer) steady.avoids [] (to_do doing kind here_at parts) run h (not_safe [] [] run) (λ n c. inl (ghost.closed n c)) m among)
        by_part m y l (inr h) fewer among =
            by_reading (read_met change calling.added inner_objects (other.statics ++ other.frame.objects) (closed_numbers known.closed other.frame.objects) known.quiet (inside entries) same_names other.world
            (locks_in (to_do doing kind here_at parts)) [] fewer (all_ready (locks_in (to_do doing kind here_at parts)) fewer) steady.avoids [] (to_do doing kind here_at parts) run h m among)
          where
            by_reading : MetTree change stage (inside entries) other.world [] [] run m ⊎ ((later : Run) × (m ≡ goes other.world later) × IsReading change (inside entries) later run)
                → Found (moved (new_of change) names (in_added (evaluates place (to_do doing kind here_at parts) returns ∷ [])) [] place returns m)
            by_reading (inl met) = by_match m y l met
            by_reading (inr (later, e, still)) = stays m y l later run e (inr still) ghost

    evaluating_met : (tasks : List Task) → Evaluating change stage other.world v entries tasks caller.kind run → (state : State) → IsAmong state (task_steps (new_of change) names (in_added tasks) (unfolded tasks)) → Found state
    evaluating_met tasks h state k =
        evaluated_met h.place h.now h.agrees h.few h.yields h.left state (subst (λ ts. IsAmong state (task_steps (new_of change) names (in_added ts) (unfolded ts))) h.is k)

    pub aside_met : (tasks : List Task) → Phase change stage other.world v entries tasks caller.kind run → (state : State) → IsAmong state (task_steps (new_of change) names (in_added tasks) (unfolded tasks)) → Found state
    aside_met tasks (inl h) state k = beginning_met tasks h state k
    aside_met tasks (inr (inl h)) state k = evaluating_met tasks h state k
    aside_met tasks (inr (inr h)) state k = returning_met tasks h state k
