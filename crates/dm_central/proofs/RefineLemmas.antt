-- The beginnings of runs agree, and the old program needs none of the parameters' objects: so the new program refines the old one.
use Rattle.std.specs.Prelude.{◌≡◌, refl, ◌⊎◌, ℕ, suc, zero, ◌+◌, ◌*◌, ◌≤◌, Bool, true, false, List, [], ◌∷◌, map, length, Option, Some, None}
use Rattle.std.proofs.Common.{arith, true≢false, ap, sym, ◌∙◌, subst, inl, inr}
use Rattle.dm_token.specs.declared.place.Place.{Place}
use Rattle.dm_tree.specs.Trees.{Tree}
use Rattle.dm_meaning.specs.declared.cause.Cause.{Cause}
use Rattle.dm_meaning.specs.Among.{IsAmong}
use Rattle.dm_meaning.specs.Called.{Called, new_of, statics_of}
use Rattle.dm_meaning.specs.Extending.{HasAll}
use Rattle.dm_meaning.specs.Machines.{undefined, Goes, RunsTo}
use Rattle.dm_meaning.specs.Memory.{Memory, Block, look_up, look, new_block, killed, value_in, or_unset, contents_at}
use Rattle.dm_meaning.specs.Causes.{absence_causes}
use Rattle.dm_meaning.specs.MoreObjects.{IsMade, ObjectsMade, IsSettled, Grown, with_memory, Spared}
use Rattle.dm_meaning.specs.Objects.{all_zero}
use Rattle.dm_meaning.specs.Operations.{World, Objects}
use Rattle.dm_meaning.specs.Programs.{Definition, Program, layout}
use Rattle.dm_meaning.specs.Refinement.{Refines}
use Rattle.dm_meaning.specs.Replaced.{StaticAgrees, IsReplacement}
use Rattle.dm_meaning.specs.Simulation.{GoesWrong, Meets, IsSimulation, simulated}
use Rattle.dm_meaning.specs.States.{State}
use Rattle.dm_meaning.specs.Statements.{named_from}
use Rattle.dm_meaning.specs.Steps.{opened_frame, opened_memory, Step}
use Rattle.dm_meaning.specs.Units.{static_numbers, statics_memory, argv_kind, arguments_for, start, main_of, Begins, machine_of}
use Rattle.dm_meaning.specs.Values.{numbered, literal_of, elsewhere, At}
use Rattle.dm_meaning.proofs.EntryLemmas.{with_entries, objects_in, AreFresh, AllSpare, kept, has_entered, spare_entered, has_left, spare_left}
use Rattle.dm_meaning.proofs.GrowLemmas.{look_added}
use Rattle.dm_meaning.proofs.KnownLemmas.{NamesKnown, begins_known, known_later}
use Rattle.dm_meaning.proofs.LikenessLemmas.{unfolded_agree}
use Rattle.dm_meaning.proofs.MatchLemmas.{parameter_block}
use Rattle.dm_meaning.proofs.OptionLemmas.{none_is_some, some_is_some}
use Rattle.dm_meaning.proofs.PassRunLemmas.{Entry as Stored}
use Rattle.dm_meaning.proofs.PassStateLemmas.{Spare, flat}
use Rattle.dm_meaning.proofs.PassStatementLemmas.{limit, IsSmall, main_small, most}
use Rattle.dm_meaning.proofs.RunLemmas.{OptionAgrees, renamed_objects}
use Rattle.dm_meaning.proofs.SpareStateLemmas.{unfolded_settled, spared_steps, settled_beginnings}
use Rattle.dm_meaning.proofs.StartLemmas as plain
use Rattle.dm_meaning.proofs.StaticLemmas.{statics_memory_same}
use Rattle.dm_rewrite.specs.Effects.{Effect, on_others, Stage, ChangesOnly}
use Rattle.dm_rewrite.specs.KeptMemory.{HasSameObjects, emptied}
use Rattle.dm_rewrite.proofs.FrameChangeLemmas.{usable_made, changes_join}
use Rattle.dm_rewrite.proofs.KeptLemmas.{same_absence}
use Rattle.dm_central.specs.Bodies.{nothing_known, DefinitionAgrees, NoStatements, CallsInPlace}
use Rattle.dm_central.specs.ClosedFrames.{AreAllClosed}
use Rattle.dm_central.specs.ClosedPrograms.{known_with, known_where, known_closed, AreOnlyNamed, AreAlwaysSafe}
use Rattle.dm_central.specs.LeftAlone.{AreLeftAlone, AreKept}
use Rattle.dm_central.specs.QuietFrames.{AreQuiet, AreQuietFrames}
use Rattle.dm_central.specs.StateAgreement.{DefinitionFits, StateAgrees, Related, worlds_after, GoesWithin, Met}
use Rattle.dm_central.specs.Waiting.{IsWaiting}
use Rattle.dm_central.proofs.BeginLemmas.{made_killed, begins_waiting}
use Rattle.dm_central.proofs.BehindLemmas.{changes_left}
use Rattle.dm_central.proofs.BodyLemmas.{likeness}
use Rattle.dm_central.proofs.CallFrameLemmas.{frame_objects, frame_tasks, frame_memory}
use Rattle.dm_central.proofs.ClosedBeginLemmas.{begins_all_closed}
use Rattle.dm_central.proofs.ClosedFrameLemmas.{declared_from, all_closed_later}
use Rattle.dm_central.proofs.ClosedSteadyLemmas.{steady_here}
use Rattle.dm_central.proofs.KeptFrameLemmas.{kept_by, kept_later}
use Rattle.dm_central.proofs.LeftAloneLemmas.{left_alone_later, begins_left_alone}
use Rattle.dm_central.proofs.NewProgramLemmas.{same_world, related_made, IsClear, begins_clear, clear_later, clear_avoids}
use Rattle.dm_central.proofs.QuietFrameLemmas.{quiet_later, begins_quiet}
use Rattle.dm_central.proofs.ShapeLemmas.{same_statics as statics_stay}
use Rattle.dm_central.proofs.StateStepLemmas.{step_met}
use Rattle.dm_central.proofs.SteadyLemmas.{loose}
use Rattle.dm_central.proofs.TopLemmas.{same_worlds, top_begun, top_enough}
use Rattle.dm_central.proofs.WaitingLemmas.{waiting_later, waiting_beside}

-- ---- objects that stay

same_join : (a b c : Memory) → HasSameObjects a b → HasSameObjects b c → HasSameObjects a c
same_join a b c h k name there = k name (same_absence a b name (h name there) ∙ there) ∙ h name there

-- the objects of the parameters are new
entries_beside : (change : Called) (entries : List Stored) (memory : Memory) (n : ℕ) → AreFresh entries memory → IsMade memory n → look_up (with_entries change entries memory) n ≡ look_up memory n
entries_beside change [] memory n fresh made = refl
entries_beside change (entry ∷ entries) memory n fresh made =
    look_added entry.stored (parameter_block change entry.parameter entry.value) (with_entries change entries memory) n (λ e. none_is_some made.0 (sym (ap (look_up memory) (sym e) ∙ fresh.0) ∙ made.1))
    ∙ entries_beside change entries memory n fresh.2 made

made_entered : (change : Called) (entries : List Stored) (memory : Memory) → AreFresh entries memory → (n : ℕ) → IsMade memory n → IsMade (with_entries change entries memory) n
made_entered change entries memory fresh n made = (made.0, entries_beside change entries memory n fresh made ∙ made.1)

same_entered : (change : Called) (entries : List Stored) (memory : Memory) → AreFresh entries memory → HasSameObjects memory (with_entries change entries memory)
same_entered change entries memory fresh (numbered n) there = by_option (look_up memory n) refl
  where
    by_option : (o : Option Block) → look_up memory n ≡ o → emptied (look_up (with_entries change entries memory) n) ≡ emptied (look_up memory n)
    by_option None e = absurd (usable_made memory n there e)
    by_option (Some block) e = ap emptied (entries_beside change entries memory n fresh (block, e))
same_entered change entries memory fresh (literal_of bytes unit) there = refl
same_entered change entries memory fresh (elsewhere identifier) there = refl

-- to whoever waits, nothing happens when they are made
entries_change : (change : Called) (entries : List Stored) (stage : Stage) (effects : List Effect) (world : World) → AreFresh entries world.memory → ChangesOnly stage effects world (record world { memory = with_entries change entries world.memory })
entries_change change entries stage effects world fresh = record {
  same_objects = same_entered change entries world.memory fresh;
  same = λ at n e free there. by_option at n e (look_up world.memory n) refl (ap (absence_causes world.memory) (sym e) ∙ there);
}
  where
    by_option : (at : At) (n : ℕ) → at.name ≡ numbered n → (o : Option Block) → look_up world.memory n ≡ o → absence_causes world.memory (numbered n) ≡ []
        → contents_at (with_entries change entries world.memory) at ≡ contents_at world.memory at
    by_option at n e None f there = absurd (usable_made world.memory n there f)
    by_option at n e (Some block) f there =
        ap (λ name. or_unset (value_in at.path (look (with_entries change entries world.memory) name))) e
        ∙ ap (λ o. or_unset (value_in at.path o)) (entries_beside change entries world.memory n fresh (block, f))
        ∙ sym (ap (λ name. or_unset (value_in at.path (look world.memory name))) e)

module _ (change : Called) (closed quiet : ℕ → Bool) (safe : Tree → Bool) (calling : CallsInPlace change (known_with closed quiet safe)) (only : AreOnlyNamed change closed) (silent : AreQuiet change.old quiet)
    (always : AreAlwaysSafe change.old safe) where
  -- ---- objects of static storage duration

  same_statics : IsReplacement (statics_of change)
  same_statics = record { injective = calling.injective; told = calling.added.told; functions = tt; statics = calling.statics }

  same_count : length change.statics ≡ length change.old.statics
  same_count = plain.zipped_length (statics_of change) same_statics (StaticAgrees (statics_of change)) change.statics change.old.statics calling.statics

  statics_agree : (names : ℕ → ℕ) → named_from names 0 (static_numbers change.statics) [] ≡ renamed_objects change.rename (named_from names 0 (static_numbers change.old.statics) [])
  statics_agree names = plain.statics_agree (statics_of change) same_statics names

  abbrev old_statics : (ℕ → ℕ) → Objects
  old_statics names = named_from names 0 (static_numbers change.old.statics) []

  memory_agrees : (names : ℕ → ℕ) → statics_memory (new_of change) names (named_from names 0 (static_numbers change.statics) []) ≡ statics_memory change.old names (old_statics names)
  memory_agrees names =
      sym (statics_memory_same (new_of change) [] names (named_from names 0 (static_numbers change.statics) []))
      ∙ plain.memory_agrees (statics_of change) same_statics names
      ∙ statics_memory_same change.old [] names (old_statics names)

  arguments_agree : (n : ℕ) (ds : List ℕ) → arguments_for n (map change.rename ds) ≡ arguments_for n ds
  arguments_agree n [] = refl
  arguments_agree n (d ∷ ds) = refl

  other_main : (one other : Option Definition) (main : Definition) → OptionAgrees (DefinitionAgrees change (known_with closed quiet safe)) one other → one ≡ Some main → (m : Definition) × (other ≡ Some m) × DefinitionAgrees change (known_with closed quiet safe) main m
  other_main None other main h e = absurd (none_is_some main e)
  other_main (Some one) None main h e = absurd h
  other_main (Some one) (Some other) main h e = (other, refl, subst (λ d. DefinitionAgrees change (known_with closed quiet safe) d other) (some_is_some one main e) h)

  -- ---- beginnings

  start_agrees : (names : ℕ → ℕ) (main other : Definition) (input : List ℕ) → DefinitionFits change (known_with closed quiet safe) main other
      → StateAgrees change (known_with closed quiet safe) [] [] (start names (new_of change) main input) (start names change.old other input)
  start_agrees names main other input h =
      let count = same_count in
      let argv_block = record (new_block (layout change.old) argv_kind) { contents = all_zero (layout change.old) argv_kind } in
      let begun = start names change.old other input in
      record {
        standing = refl;
        function = h.0.0;
        objects =
            ap (λ n. (opened_frame (new_of change) (λ i. names (suc n + i)) main).objects) count
            ∙ frame_objects change (known_with closed quiet safe) calling (λ i. names (suc (length change.old.statics) + i)) main other h;
        tasks = top_begun change (known_with closed quiet safe) begun.statics begun.frame.objects begun.world _ _ (unfolded_agree change (likeness change (known_with closed quiet safe) calling) _ _ (frame_tasks change (known_with closed quiet safe) calling (λ i. names (suc (length change.old.statics) + i)) main other h));
        callers = tt;
        statics = statics_agree names;
        world =
            ap (λ n. record { memory = opened_memory (new_of change) (λ i. names (suc n + i)) main (arguments_for (names n) main.parameters) ((names n, argv_block) ∷ statics_memory (new_of change) names (named_from names 0 (static_numbers change.statics) [])); input = input; output = [] }) count
            ∙ ap (λ m. record { memory = opened_memory (new_of change) (λ i. names (suc (length change.old.statics) + i)) main (arguments_for (names (length change.old.statics)) main.parameters) ((names (length change.old.statics), argv_block) ∷ m); input = input; output = [] }) (memory_agrees names)
            ∙ ap (λ ps. record { memory = opened_memory (new_of change) (λ i. names (suc (length change.old.statics) + i)) main (arguments_for (names (length change.old.statics)) ps) ((names (length change.old.statics), argv_block) ∷ statics_memory change.old names (old_statics names)); input = input; output = [] }) h.0.1
            ∙ ap (λ vs. record { memory = opened_memory (new_of change) (λ i. names (suc (length change.old.statics) + i)) main vs ((names (length change.old.statics), argv_block) ∷ statics_memory change.old names (old_statics names)); input = input; output = [] }) (arguments_agree (names (length change.old.statics)) other.parameters)
            ∙ ap (λ m. record { memory = m; input = input; output = [] }) (frame_memory change (known_with closed quiet safe) calling (λ i. names (suc (length change.old.statics) + i)) main other (arguments_for (names (length change.old.statics)) other.parameters) ((names (length change.old.statics), argv_block) ∷ statics_memory change.old names (old_statics names)) h);
      }

  begins_agrees : (input : List ℕ) (state : State) → Begins (new_of change) input state → (other : State) × Begins change.old input other × StateAgrees change (known_with closed quiet safe) [] [] state other
  begins_agrees input state (bytes, names, fresh, main, is_main_here, e) =
      let found = other_main (main_of (new_of change)) (main_of change.old) main calling.mains is_main_here in
      let small : IsSmall (limit change) (Some main) = subst (IsSmall (limit change)) is_main_here (main_small (new_of change) change.functions) in (
        start names change.old found.0 input,
        (bytes, names, fresh, found.0, found.1, refl),
        subst (λ s. StateAgrees change (known_with closed quiet safe) [] [] s (start names change.old found.0 input)) (sym e) (start_agrees names main found.0 input (found.2, small)),
      )

  -- ---- the old program beside the objects of the parameters

  -- the state is one of a run
  abbrev IsReached : State → Type 0
  IsReached state = (input : List ℕ) × (n : ℕ) × RunsTo (machine_of change.old) input n state

  -- the old program stands at a state without them
  pub record Holds (other : State) (more : Memory) (spare : Spare) (starts : List World) : Type 0 where
    pub settled : IsSettled other
    pub has : HasAll more other.world.memory
    pub names : NamesKnown change.old other
    pub spares : AllSpare change more other.world.memory (flat spare)
    pub waits : IsWaiting starts (with_memory other more)
    pub reached : IsReached other
    -- closed objects are the frame's own, and in the frames below they hold what they held
    pub own_ones : (entry : ℕ × ℕ) → IsAmong entry other.statics → closed entry.0 ≡ true → ⊥
    pub closed_ones : AreAllClosed closed other
    pub alone : AreLeftAlone change.old closed other
    pub quiet_ones : AreQuietFrames change.old quiet other
    pub kept_ones : AreKept change.old quiet closed other.statics other.frame.function starts other.callers (with_memory other more).world

  goes_nothing : (program : Program) (t : State) → Goes (machine_of program) 0 t t
  unfolding Goes
  goes_nothing program t = refl

  goes_first : (program : Program) (n : ℕ) (s t u : State) → Step program s t → Goes (machine_of program) n t u → Goes (machine_of program) (suc n) s u
  unfolding Goes
  goes_first program n s t u step goes = (t, step, goes)

  goes_last : (program : Program) (n : ℕ) (s t u : State) → Goes (machine_of program) n s t → Step program t u → Goes (machine_of program) (suc n) s u
  unfolding Goes
  goes_last program zero s t u e step = (u, subst (λ x. Step program x u) (sym e) step, refl)
  goes_last program (suc n) s t u (middle, first, rest) step = (middle, first, goes_last program n middle t u rest step)

  wrong_later : (program : Program) (s t : State) → Step program s t → GoesWrong (machine_of program) t → GoesWrong (machine_of program) s
  unfolding Goes
  wrong_later program s t step (n, u, goes, cause, place, e) = (suc n, u, (t, step, goes), cause, place, e)

  -- where a run goes wrong beside more objects, it goes wrong without them
  wrong_without : (n : ℕ) (program : Program) (more : Memory) (state u : State) → IsSettled state → HasAll more state.world.memory → Goes (machine_of program) n (with_memory state more) u
      → (cause : Cause) (place : Place) → u.standing ≡ undefined cause place → GoesWrong (machine_of program) state
  unfolding Goes
  wrong_without zero program more state u settled has same cause place e = (0, state, refl, cause, place, ap (λ (s : State). s.standing) same ∙ e)
  wrong_without (suc n) program more state u settled has (v, step, goes) cause place e =
      by_step (spared_steps program state v more settled has step) (λ next after s h f. wrong_without n program after next u s h f cause place e)
    where
      by_step : GoesWrong (machine_of program) state ⊎ Spared program state v more
          → ((next : State) (after : Memory) → IsSettled next → HasAll after next.world.memory → Goes (machine_of program) n (with_memory next after) u → GoesWrong (machine_of program) next)
          → GoesWrong (machine_of program) state
      by_step (inl wrong) later = wrong
      by_step (inr spared) later =
          wrong_later program state spared.next spared.step
          (later spared.next spared.after spared.settled spared.grown.has (subst (λ s. Goes (machine_of program) n s u) spared.is goes))

  -- what was made beside it still is
  made_on : (more memory after later : Memory) → Grown more memory after later → (n : ℕ) → IsMade more n → IsMade after n
  made_on more memory after later grown n made = by_option (look_up memory n) refl
    where
      by_option : (o : Option Block) → look_up memory n ≡ o → IsMade after n
      by_option None e = (made.0, (grown.spare n made.0 (made.1, e)).0)
      by_option (Some block) e = let there = grown.made n (block, e) in (there.0, grown.has n there.0 there.1)

  -- a step beside them is one without them
  record Advanced (other : State) (more : Memory) (last : State) (spare : Spare) (starts : List World) : Type 0 where
    next : State
    after : Memory
    step : Step change.old other next
    is : last ≡ with_memory next after
    holds : Holds next after spare starts
    made : (n : ℕ) → IsMade more n → IsMade after n

  advance : (other : State) (more : Memory) (spare : Spare) (starts : List World) (last : State) → Holds other more spare starts → Step change.old (with_memory other more) last
      → GoesWrong (machine_of change.old) other ⊎ Advanced other more last spare (worlds_after starts (with_memory other more).world other.callers last.callers)
  advance other more spare starts last h step = by_step (spared_steps change.old other last more h.settled h.has step)
    where
      by_step : GoesWrong (machine_of change.old) other ⊎ Spared change.old other last more
          → GoesWrong (machine_of change.old) other ⊎ Advanced other more last spare (worlds_after starts (with_memory other more).world other.callers last.callers)
      by_step (inl wrong) = inl wrong
      by_step (inr spared) =
          let made : (n : ℕ) → IsMade more n → IsMade last.world.memory n =
          λ n k. subst (λ (s : State). IsMade s.world.memory n) (sym spared.is) (made_on more other.world.memory spared.after spared.next.world.memory spared.grown n k) in
          let own_made : ObjectsMade more other.frame.objects = λ n k. let there = h.settled.frame.0 n k in (there.0, h.has n there.0 there.1) in
          let later = worlds_after starts (with_memory other more).world other.callers last.callers in
          let waits_last = waiting_later change.old (with_memory other more) last step made starts h.waits own_made in
          let waits = subst (IsWaiting later) spared.is waits_last in
          let alone = left_alone_later change.old closed starts other spared.next spared.step h.waits.frame.0 h.closed_ones h.alone in
          let still_kept = kept_later change.old quiet closed (with_memory other more) last step (record { frame = h.alone.frame; callers = h.alone.callers }) (record { frame = h.quiet_ones.frame; callers = h.quiet_ones.callers }) starts h.waits waits_last h.kept_ones in
          inr (record {
            next = spared.next;
            after = spared.after;
            step = spared.step;
            is = spared.is;
            made = λ n k. made_on more other.world.memory spared.after spared.next.world.memory spared.grown n k;
            holds = record {
              settled = spared.settled;
              has = spared.grown.has;
              names = known_later change.old other spared.next spared.step h.names;
              spares = kept change more other.world.memory spared.after spared.next.world.memory spared.grown (flat spare) h.spares;
              waits = waits;
              own_ones = λ entry l picked. h.own_ones entry (subst (IsAmong entry) (statics_stay change.old other spared.next spared.step) l) picked;
              closed_ones = all_closed_later change.old closed only.old later other spared.next spared.step spared.grown.made waits.frame.0 spared.settled.frame.0 h.closed_ones;
              alone = alone;
              quiet_ones = quiet_later change.old quiet silent other spared.next spared.step h.quiet_ones;
              kept_ones = subst (λ (s : State). AreKept change.old quiet closed s.statics s.frame.function later s.callers s.world) spared.is still_kept;
              reached = (h.reached.0, suc h.reached.1, record { start = h.reached.2.start; begins = h.reached.2.begins; goes = goes_last change.old h.reached.1 h.reached.2.start other spared.next h.reached.2.goes spared.step });
            };
          })

  -- and so are steps within a frame
  record AdvancedWithin (count : ℕ) (other : State) (more : Memory) (last : State) (spare : Spare) (starts : List World) : Type 0 where
    next : State
    after : Memory
    goes : Goes (machine_of change.old) count other next
    is : last ≡ with_memory next after
    holds : Holds next after spare starts
    made : (n : ℕ) → IsMade more n → IsMade after n

  advance_within : (count : ℕ) (other : State) (more : Memory) (spare : Spare) (starts : List World) (start last : State) → start ≡ with_memory other more → Holds other more spare starts → GoesWithin change.old count start last
      → GoesWrong (machine_of change.old) other ⊎ AdvancedWithin count other more last spare starts
  advance_within zero other more spare starts start last e h same = inr (record { next = other; after = more; goes = goes_nothing change.old other; is = sym same ∙ e; holds = h; made = λ n k. k })
  advance_within (suc count) other more spare starts start last e h (middle, step, callers, rest) =
      by_step (advance other more spare starts middle h (subst (λ s. Step change.old s middle) e step)) (λ next after k is. advance_within count next after spare starts middle last is k rest)
    where
      same_starts : worlds_after starts (with_memory other more).world other.callers middle.callers ≡ starts
      same_starts =
          ap (worlds_after starts (with_memory other more).world other.callers) (callers ∙ ap (λ (s : State). s.callers) e) ∙ same_worlds starts (with_memory other more).world other.callers

      by_step : GoesWrong (machine_of change.old) other ⊎ Advanced other more middle spare (worlds_after starts (with_memory other more).world other.callers middle.callers)
          → ((next : State) (after : Memory) → Holds next after spare starts → middle ≡ with_memory next after → GoesWrong (machine_of change.old) next ⊎ AdvancedWithin count next after last spare starts)
          → GoesWrong (machine_of change.old) other ⊎ AdvancedWithin (suc count) other more last spare starts
      by_step (inl wrong) later = inl wrong
      by_step (inr a) later = by_rest (later a.next a.after (subst (Holds a.next a.after spare) same_starts a.holds) a.is)
        where
          by_rest : GoesWrong (machine_of change.old) a.next ⊎ AdvancedWithin count a.next a.after last spare starts → GoesWrong (machine_of change.old) other ⊎ AdvancedWithin (suc count) other more last spare starts
          by_rest (inl wrong) = inl (wrong_later change.old other a.next a.step wrong)
          by_rest (inr k) = inr (record { next = k.next; after = k.after; goes = goes_first change.old count other a.next k.next a.step k.goes; is = k.is; holds = k.holds; made = λ n m. k.made n (a.made n m) })

  -- ---- the simulation

  module _ (no_statements : NoStatements change.old) where
    pub record Relation (w : ℕ) (state other : State) : Type 0 where
      pub more : Memory
      pub spare : Spare
      pub starts : List World
      pub related : Related change (known_with closed quiet safe) w spare starts state (with_memory other more)
      pub holds : Holds other more spare starts
      pub clear : IsClear change closed only.new state

    same_standing : (w : ℕ) (spare : Spare) (starts : List World) (s t : State) → Related change (known_with closed quiet safe) w spare starts s t → s.standing ≡ t.standing
    same_standing w spare starts s t (inl h) = h.1.standing
    same_standing w spare starts s t (inr (first, rest, is, inl h)) = h.standing
    same_standing w spare starts s t (inr (first, rest, is, inr h)) = h.standing

    same_output : (w : ℕ) (spare : Spare) (starts : List World) (s t : State) → Related change (known_with closed quiet safe) w spare starts s t → t.world.output ≡ s.world.output
    same_output w spare starts s t (inl h) = ap (λ (world : World). world.output) (sym h.1.world)
    same_output w spare starts s t (inr (first, rest, is, inl h)) = ap (λ (world : World). world.output) (sym h.world)
    same_output w spare starts s t (inr (first, rest, is, inr h)) = ap (λ (world : World). world.output) (sym h.world)

    Relates : ℕ → State → State → Type 0
    Relates w state other = Relation w state other

    Outcome : ℕ → State → State → Type 0
    Outcome w s' t = GoesWrong (machine_of change.old) t ⊎ Meets (machine_of (new_of change)) (machine_of change.old) Relation (most change) w s' t

    enough_risen : (n w c : ℕ) → n + 1 ≤ w + (1 + n) * suc c
    enough_risen n w zero = omega arith
    enough_risen n w (suc c) = let less = enough_risen n w c in grind (arith, less)

    stays_met : (w v : ℕ) (s' t : State) → v + 1 ≤ w → Relation v s' t → Outcome w s' t
    unfolding Outcome
    stays_met w v s' t less related = inr (0, v, t, goes_nothing change.old t, omega (arith, less), related)

    -- memory with the objects of the parameters, or without
    with_more : (other : State) (more : Memory) (spare : Spare) (starts : List World) → Holds other more spare starts → (memory : Memory) (later : Spare) → HasAll memory other.world.memory → AllSpare change memory other.world.memory (flat later)
        → ((n : ℕ) → IsMade more n → IsMade memory n) → ((start : World) → IsAmong start starts → HasSameObjects start.memory memory)
        → ((stage : Stage) (effects : List Effect) (start : World) → IsAmong start starts → ChangesOnly stage effects start (with_memory other more).world → ChangesOnly stage effects start (with_memory other memory).world)
        → Holds other memory later starts
    with_more other more spare starts h memory later has spares made same changes = record {
      settled = h.settled;
      has = has;
      names = h.names;
      spares = spares;
      waits = waiting_beside starts (with_memory other more) memory h.waits (λ start l. record { made = λ n k. made n ((h.waits.since start l).made n k); same = same start l }) (λ n l. made n (h.waits.statics n l));
      reached = h.reached;
      own_ones = h.own_ones;
      closed_ones = h.closed_ones;
      alone = h.alone;
      quiet_ones = h.quiet_ones;
      kept_ones = kept_by change.old quiet closed other.statics (with_memory other more).world (with_memory other memory).world other.frame.function starts other.callers changes h.kept_ones;
    }

    abbrev no_stage : Stage
    no_stage = record { scene = record { program = change.old; objects = [] }; closed = []; quiet = λ f. false }

    -- what is known of the new program behind the step, where what was made beside the old one still is
    Clears : State → Memory → Type 0
    Clears s' more =
        (w : ℕ) (t : State) (memory : Memory) (spare : Spare) (starts : List World) → Related change (known_with closed quiet safe) w spare starts s' (with_memory t memory) → Holds t memory spare starts
        → ((n : ℕ) → IsMade more n → IsMade memory n) → IsClear change closed only.new s'

    met : (w : ℕ) (s' t : State) (more : Memory) (spare : Spare) (starts : List World) → Holds t more spare starts → Clears s' more → Met change (known_with closed quiet safe) w spare starts (with_memory t more) s' → Outcome w s' t
    unfolding Outcome Clears
    met w s' t more spare starts h clears (inl (n, u, goes, cause, place, e)) = inl (wrong_without n change.old more t u h.settled h.has goes cause place e)
    met w s' t more spare starts h clears (inr (inl f)) = by_step (advance t more spare starts f.last h f.step)
      where
        by_step : GoesWrong (machine_of change.old) t ⊎ Advanced t more f.last spare (worlds_after starts (with_memory t more).world t.callers f.last.callers) → Outcome w s' t
        by_step (inl wrong) = inl wrong
        by_step (inr a) =
            let related = subst (Related change (known_with closed quiet safe) (most change) spare (worlds_after starts (with_memory t more).world t.callers f.last.callers) s') a.is f.related in
            inr (
              1,
              most change,
              a.next,
              goes_first change.old 0 t a.next a.next a.step (goes_nothing change.old a.next),
              enough_risen (most change) w 0,
              record {
                more = a.after;
                spare = spare;
                starts = worlds_after starts (with_memory t more).world t.callers f.last.callers;
                related = related;
                holds = a.holds;
                clear = clears (most change) a.next a.after spare (worlds_after starts (with_memory t more).world t.callers f.last.callers) related a.holds a.made;
              },
            )
    met w s' t more spare starts h clears (inr (inr (inl f))) = by_steps (advance_within (suc f.count) t more spare starts (with_memory t more) f.last refl h f.goes)
      where
        by_steps : GoesWrong (machine_of change.old) t ⊎ AdvancedWithin (suc f.count) t more f.last spare starts → Outcome w s' t
        by_steps (inl wrong) = inl wrong
        by_steps (inr a) =
            let related = subst (Related change (known_with closed quiet safe) (most change) spare starts s') a.is f.related in
            inr (
              suc f.count,
              most change,
              a.next,
              a.goes,
              enough_risen (most change) w f.count,
              record { more = a.after; spare = spare; starts = starts; related = related; holds = a.holds; clear = clears (most change) a.next a.after spare starts related a.holds a.made },
            )
    met w s' t more spare starts h clears (inr (inr (inr (inl (v, less, related))))) = stays_met w v s' t less (record { more = more; spare = spare; starts = starts; related = related; holds = h; clear = clears v t more spare starts related h (λ n k. k) })
    met w s' t more spare starts h clears (inr (inr (inr (inr (inl f))))) =
        let memory = with_entries change f.entries more in
        let made = made_entered change f.entries more f.fresh in
        let holds =
        with_more t more spare starts h memory (f.entries ∷ spare) (has_entered change f.entries more t.world.memory f.fresh h.has) (spare_entered change f.entries (flat spare) more t.world.memory f.fresh h.has h.spares)
        made (λ start l. same_join start.memory more memory (h.waits.since start l).same (same_entered change f.entries more f.fresh))
        (λ stage effects start l k. changes_join stage effects start (with_memory t more).world (with_memory t memory).world k (entries_change change f.entries stage effects (with_memory t more).world f.fresh)) in
        stays_met w f.left s' t f.less (record { more = memory; spare = f.entries ∷ spare; starts = starts; related = f.related; holds = holds; clear = clears f.left t memory (f.entries ∷ spare) starts f.related holds made })
    met w s' t more spare starts h clears (inr (inr (inr (inr (inr f))))) =
        let all = subst (λ s. AllSpare change more t.world.memory (flat s)) f.is h.spares in
        let memory = killed (map (λ entry. entry.1) (objects_in f.first)) more in
        let made : (n : ℕ) → IsMade more n → IsMade memory n = λ n k. made_killed (map (λ entry. entry.1) (objects_in f.first)) more n k in
        let holds =
        with_more t more spare starts h memory f.rest (has_left change f.first (flat f.rest) more t.world.memory h.has all) (spare_left change f.first (flat f.rest) more t.world.memory h.has all) made
        (λ start l. (changes_left no_stage (on_others ∷ []) start (with_memory t more).world f.first (f.below start l) (loose no_stage (λ n k. k) start (with_memory t more).world (h.waits.since start l).same)).same_objects)
        (λ stage effects start l k. changes_left stage effects start (with_memory t more).world f.first (f.below start l) k) in
        stays_met w f.left s' t f.less (record { more = memory; spare = f.rest; starts = starts; related = f.related; holds = holds; clear = clears f.left t memory f.rest starts f.related holds made })

    steps_met : (w : ℕ) (s s' t : State) → Relation w s t → Step (new_of change) s s' → Outcome w s' t
    unfolding Clears
    steps_met w s s' t h step =
        met w s' t h.more h.spare h.starts h.holds clears
        (step_met change (known_with closed quiet safe) calling w h.spare h.starts s s' (with_memory t h.more) h.related t.world.memory h.holds.spares
        (unfolded_settled t.world.memory t.frame.tasks h.holds.settled.frame.1)
        (steady_here change closed quiet safe h.starts t h.more h.holds.names h.holds.waits h.holds.own_ones (clear_avoids change closed only.new (known_with closed quiet safe) w h.spare h.starts s (with_memory t h.more) h.related h.clear) h.holds.closed_ones h.holds.kept_ones
        (λ place tree use_of rest e. no_statements h.holds.reached.0 h.holds.reached.1 t h.holds.reached.2 place tree use_of rest e)
        h.holds.has (λ place run use_of rest e tree picked stands. always h.holds.reached.0 h.holds.reached.1 t h.holds.reached.2 place run use_of rest e tree picked stands)) step)
      where
        memory_is : s.world.memory ≡ h.more
        memory_is = ap (λ (world : World). world.memory) (same_world change (known_with closed quiet safe) w h.spare h.starts s (with_memory t h.more) h.related)

        clears : (v : ℕ) (u : State) (memory : Memory) (spare : Spare) (starts : List World) → Related change (known_with closed quiet safe) v spare starts s' (with_memory u memory) → Holds u memory spare starts
            → ((n : ℕ) → IsMade h.more n → IsMade memory n) → IsClear change closed only.new s'
        clears v u memory spare starts related holds made =
            let is = ap (λ (world : World). world.memory) (same_world change (known_with closed quiet safe) v spare starts s' (with_memory u memory) related) in
            clear_later change closed only.new s s' step (λ n k. subst (λ m. IsMade m n) (sym is) (made n (subst (λ m. IsMade m n) memory_is k)))
            (subst (λ m. ObjectsMade m s.frame.objects) (sym memory_is) (related_made change (known_with closed quiet safe) w h.spare h.starts s t h.more h.related h.holds.settled h.holds.has h.holds.spares))
            (subst (λ m. ObjectsMade m s'.frame.objects) (sym is) (related_made change (known_with closed quiet safe) v spare starts s' u memory related holds.settled holds.has holds.spares)) h.clear

    begins_own : (input : List ℕ) (state : State) → Begins change.old input state → (entry : ℕ × ℕ) → IsAmong entry state.statics → closed entry.0 ≡ true → ⊥
    begins_own input state (bytes, names, fresh, main, is_main_here, e) entry l picked =
        by_declared (declared_from names 0 (static_numbers change.old.statics) [] entry (subst (λ (s : State). IsAmong entry s.statics) e l))
      where
        by_declared : IsAmong entry [] ⊎ IsAmong entry.0 (static_numbers change.old.statics) → ⊥
        by_declared (inl k) = absurd k
        by_declared (inr k) = only.local entry.0 picked k

    -- when a run begins, no frame waits
    begins_kept : (input : List ℕ) (state : State) → Begins change.old input state → AreKept change.old quiet closed state.statics state.frame.function [] state.callers state.world
    begins_kept input state (bytes, names, fresh, main, is_main_here, e) = subst (λ (s : State). AreKept change.old quiet closed s.statics s.frame.function [] s.callers s.world) (sym e) tt

    begins_related : (input : List ℕ) (s : State) → Begins (new_of change) input s → (w : ℕ) × (t : State) × (w ≤ most change) × Begins change.old input t × Relation w s t
    begins_related input s b =
        let t = begins_agrees input s b in (
          most change,
          t.0,
          omega arith,
          t.1,
          record {
            more = t.0.world.memory;
            spare = [];
            starts = [];
            related = inl (top_enough change (known_with closed quiet safe) t.0.statics t.0.frame.objects t.0.world _ _ t.2.tasks, t.2);
            holds = record {
              settled = settled_beginnings change.old input t.0 t.1;
              has = λ n block e. e;
              names = begins_known change.old input t.0 t.1;
              spares = tt;
              waits = begins_waiting change.old input t.0 t.1;
              own_ones = begins_own input t.0 t.1;
              closed_ones = begins_all_closed change.old closed only.old input t.0 t.1;
              alone = begins_left_alone change.old closed input t.0 t.1;
              quiet_ones = begins_quiet change.old quiet silent input t.0 t.1;
              kept_ones = begins_kept input t.0 t.1;
              reached = (input, 0, record { start = t.0; begins = t.1; goes = goes_nothing change.old t.0 });
            };
            clear = begins_clear change closed only.new input s b;
          },
        )

    simulation : IsSimulation (machine_of (new_of change)) (machine_of change.old) Relates (most change) (most change)
    unfolding Relates Outcome
    simulation = record {
      begins = begins_related;
      steps = steps_met;
      going_on = λ w s t h e. inr (sym (same_standing w h.spare h.starts s (with_memory t h.more) h.related) ∙ e, same_output w h.spare h.starts s (with_memory t h.more) h.related);
      ending = λ w s t status h e. inr (0, t, goes_nothing change.old t, sym (same_standing w h.spare h.starts s (with_memory t h.more) h.related) ∙ e, same_output w h.spare h.starts s (with_memory t h.more) h.related);
      wrong = λ w s t cause place h e. (0, t, goes_nothing change.old t, cause, place, sym (same_standing w h.spare h.starts s (with_memory t h.more) h.related) ∙ e);
    }

-- A program that calls the added function refines the program that has its expression in place, with the arguments in it.
pub safe_calls_refine : (change : Called) (closed quiet : ℕ → Bool) (safe : Tree → Bool) → CallsInPlace change (known_with closed quiet safe) → AreOnlyNamed change closed → AreQuiet change.old quiet → AreAlwaysSafe change.old safe
    → NoStatements change.old → Refines (machine_of (new_of change)) (machine_of change.old)
safe_calls_refine change closed quiet safe calling only silent always no_statements =
    simulated (machine_of (new_of change)) (machine_of change.old) (Relates change closed quiet safe calling only silent always no_statements) (most change) (most change)
    (simulation change closed quiet safe calling only silent always no_statements)

-- So it does where nothing is known of expressions,
pub known_calls_refine : (change : Called) (closed quiet : ℕ → Bool) → CallsInPlace change (known_where closed quiet) → AreOnlyNamed change closed → AreQuiet change.old quiet → NoStatements change.old
    → Refines (machine_of (new_of change)) (machine_of change.old)
known_calls_refine change closed quiet calling only silent no_statements =
    safe_calls_refine change closed quiet (λ tree. false) calling only silent (λ input n state run place r use_of rest e tree picked stands. absurd (true≢false (sym picked))) no_statements

-- nor of functions,
pub closed_calls_refine : (change : Called) (closed : ℕ → Bool) → CallsInPlace change (known_closed closed) → AreOnlyNamed change closed → NoStatements change.old → Refines (machine_of (new_of change)) (machine_of change.old)
closed_calls_refine change closed calling only no_statements = known_calls_refine change closed (λ f. false) calling only (λ definition l q. absurd (true≢false (sym q))) no_statements

-- nor of objects.
pub calls_refine : (change : Called) → CallsInPlace change nothing_known → NoStatements change.old → Refines (machine_of (new_of change)) (machine_of change.old)
calls_refine change calling no_statements =
    closed_calls_refine change (λ d. false) calling (record { local = λ d e. absurd (true≢false (sym e)); old = λ d e. absurd (true≢false (sym e)); new = λ d e. absurd (true≢false (sym e)) }) no_statements
