-- The closed objects of frames that wait hold what they held when the functions above were called, and all objects do where these are quiet.
use Rattle.std.specs.Prelude.{◌≡◌, refl, ◌⊎◌, ℕ, ◌==◌, Bool, true, false, List, [], ◌∷◌, ◌++◌, Option, Some, None, if◌then◌else◌}
use Rattle.std.proofs.Common.{true≢false, ap, sym, ◌∙◌, subst, inl, inr}
use Rattle.dm_meaning.specs.Among.{IsAmong}
use Rattle.dm_meaning.specs.Causes.{absence_causes}
use Rattle.dm_meaning.specs.Lifetimes.{numbers_of}
use Rattle.dm_meaning.specs.Memory.{Block, look_up, look, value_in, or_unset, contents_at}
use Rattle.dm_meaning.specs.MoreObjects.{IsMade}
use Rattle.dm_meaning.specs.Operations.{World, Objects}
use Rattle.dm_meaning.specs.Programs.{Program}
use Rattle.dm_meaning.specs.States.{Use, drops, chooses, selects, repeats, continues, returns, initialises, Task, begins, declares, initials, evaluates, again, tests, ends, ends_switch, leaves, skips, hands_back, Frame, Caller, State}
use Rattle.dm_meaning.specs.Statements.{unfolded}
use Rattle.dm_meaning.specs.Steps.{Step}
use Rattle.dm_meaning.specs.Values.{Name, numbered, literal_of, elsewhere, At, Value, part_value}
use Rattle.dm_meaning.proofs.AmongLemmas.{among_either}
use Rattle.dm_meaning.proofs.GrowLemmas.{equal_is, equal_of}
use Rattle.dm_rewrite.specs.Effects.{Effect, on_others, Stage, call_effects, by_name, effects_of, Hits, IsFree, ChangesOnly}
use Rattle.dm_rewrite.specs.KeptMemory.{HasSameObjects}
use Rattle.dm_rewrite.specs.StepEffects.{use_effects, first_effects, StillHolds}
use Rattle.dm_rewrite.proofs.FrameChangeLemmas.{usable_made, changes_opened, changes_ended}
use Rattle.dm_rewrite.proofs.StepEffectLemmas.{step_holds}
use Rattle.dm_central.specs.Bodies.{closed_numbers}
use Rattle.dm_central.specs.LeftAlone.{alone_stage, AllUnnamed, IsOther, HasNoEffects, IsPickedIn, IsClosedBelow, AreLeftAlone, waiting_stage, AreKept}
use Rattle.dm_central.specs.QuietFrames.{CallersAreQuiet, AreQuietFrames}
use Rattle.dm_central.specs.StateAgreement.{worlds_after}
use Rattle.dm_central.specs.Waiting.{UseHas, TasksKeep, HasLasted, IsWaiting, any_name, any_run}
use Rattle.dm_central.proofs.BehindLemmas.{never_made}
use Rattle.dm_central.proofs.LeftAloneLemmas.{Free, none_free, joined_free, named_other, begun_alone}
use Rattle.dm_central.proofs.OutcomeLemmas.{changes_none}
use Rattle.dm_central.proofs.QuietFrameLemmas.{QuietStep, quiet_step}
use Rattle.dm_central.proofs.ShapeLemmas.{Shape, unfolded_has, objects_shape, tasks_any}
use Rattle.dm_central.proofs.TopLemmas.{same_worlds, more_worlds, fewer_worlds}

-- ---- closed objects

is_among : (n : ℕ) (xs : List ℕ) → IsAmong n xs ⊎ (IsAmong n xs → ⊥)
is_among n [] = inr (λ l. l)
is_among n (x ∷ xs) = by_first (n == x) refl (is_among n xs)
  where
    neither : (n == x) ≡ false → (IsAmong n xs → ⊥) → IsAmong n (x ∷ xs) → ⊥
    neither f g (inl e) = true≢false (sym (equal_is n x e) ∙ f)
    neither f g (inr l) = g l

    by_first : (b : Bool) → (n == x) ≡ b → IsAmong n xs ⊎ (IsAmong n xs → ⊥) → IsAmong n (x ∷ xs) ⊎ (IsAmong n (x ∷ xs) → ⊥)
    by_first true e rest = inl (inl (equal_of n x e))
    by_first false f (inl l) = inl (inr l)
    by_first false f (inr g) = inr (neither f g)

pub picked_from : (test : ℕ → Bool) (objects : Objects) (n : ℕ) → IsAmong n (closed_numbers test objects) → IsPickedIn test objects n
picked_from test [] n l = absurd l
picked_from test (entry ∷ entries) n l = by_part (among_either n (if test entry.0 then entry.1 ∷ [] else []) (closed_numbers test entries) l) (picked_from test entries n)
  where
    by_test : (b : Bool) → test entry.0 ≡ b → IsAmong n (if b then entry.1 ∷ [] else []) → IsPickedIn test (entry ∷ entries) n
    by_test true e (inl f) = (entry.0, e, inl (λ i. (entry.0, f i)))
    by_test true e (inr m) = absurd m
    by_test false e m = absurd m

    by_rest : IsPickedIn test entries n → IsPickedIn test (entry ∷ entries) n
    by_rest (d, picked, m) = (d, picked, inr m)

    by_part : IsAmong n (if test entry.0 then entry.1 ∷ [] else []) ⊎ IsAmong n (closed_numbers test entries)
        → (IsAmong n (closed_numbers test entries) → IsPickedIn test entries n) → IsPickedIn test (entry ∷ entries) n
    by_part (inl m) later = by_test (test entry.0) refl m
    by_part (inr m) later = by_rest (later m)

-- what isn't among others is closed
closed_of_free : (closed : List ℕ) (n : ℕ) → IsFree closed (on_others ∷ []) n → IsAmong n closed
closed_of_free closed n free = by_case (is_among n closed)
  where
    by_case : IsAmong n closed ⊎ (IsAmong n closed → ⊥) → IsAmong n closed
    by_case (inl l) = l
    by_case (inr none) = absurd (free on_others (inl refl) none)

-- ---- what a step writes

module _ (n : ℕ) where
  name_free : (name : Name) → (name ≡ numbered n → ⊥) → Free n (by_name name)
  name_free (numbered m) other effect (inl e) hit = other (ap numbered (subst (λ x. Hits (n ∷ []) x n) e hit))
  name_free (numbered m) other effect (inr l) hit = absurd l
  name_free (literal_of bytes unit) other effect l hit = absurd l
  name_free (elsewhere identifier) other effect l hit = absurd l

  module _ (B : ℕ → Type 0) (b : B n) where
    use_free : (use_of : Use) → UseHas (IsOther B) use_of → Free n (use_effects use_of)
    use_free (initialises at kind) h = name_free at.name (h n b)
    use_free drops h = none_free n
    use_free (chooses first second) h = none_free n
    use_free (selects items) h = none_free n
    use_free (repeats loop) h = none_free n
    use_free (continues loop) h = none_free n
    use_free returns h = none_free n

-- the next task of a frame that leaves the object alone writes nothing there
next_free : (program : Program) (B : ℕ → Type 0) (n : ℕ) → B n → (statics objects : Objects) → AllUnnamed B statics objects → (tasks : List Task)
    → TasksKeep (AllUnnamed B statics) (IsOther B) (HasNoEffects program B) tasks → Free n (first_effects (alone_stage program (statics ++ objects) n) tasks)
next_free program B n b statics objects unnamed [] h = none_free n
next_free program B n b statics objects unnamed (begins tree ∷ rest) h = none_free n
next_free program B n b statics objects unnamed (declares declarator expressions ∷ rest) h = none_free n
next_free program B n b statics objects unnamed (initials at kind initialiser expressions ∷ rest) h = name_free n at.name (h.0 n b)
next_free program B n b statics objects unnamed (evaluates place run use_of ∷ rest) h =
    joined_free n (effects_of (alone_stage program (statics ++ objects) n) run) (use_effects use_of) (h.0.0 n b (statics ++ objects) (unnamed n b)) (use_free n B b use_of h.0.1)
next_free program B n b statics objects unnamed (again saved loop ∷ rest) h = none_free n
next_free program B n b statics objects unnamed (tests saved loop ∷ rest) h = none_free n
next_free program B n b statics objects unnamed (ends saved ∷ rest) h = none_free n
next_free program B n b statics objects unnamed (ends_switch saved ∷ rest) h = none_free n
next_free program B n b statics objects unnamed (leaves ∷ rest) h = none_free n
next_free program B n b statics objects unnamed (skips ∷ rest) h = none_free n
next_free program B n b statics objects unnamed (hands_back value ∷ rest) h = none_free n

-- a step leaves it as it is
pub closed_holds : (program : Program) (test : ℕ → Bool) (s t : State) → Step program s t → AreLeftAlone program test s → (n : ℕ) → IsClosedBelow test s.callers n → (block : Block)
    → look_up s.world.memory n ≡ Some block → StillHolds t.world.memory n block
closed_holds program test s t step k n b block e =
    step_holds program (n ∷ []) (λ f. false) s t step n block e
    (next_free program (IsClosedBelow test s.callers) n b s.statics s.frame.objects k.frame.0 (unfolded s.frame.tasks)
    (unfolded_has program (AllUnnamed (IsClosedBelow test s.callers) s.statics) (IsOther (IsClosedBelow test s.callers)) (HasNoEffects program (IsClosedBelow test s.callers))
    (λ objects unnamed d m f. named_other (IsClosedBelow test s.callers) s.statics objects unnamed d m f) (λ tree m c. begun_alone program m tree) s.frame.tasks k.frame.1))

-- ---- frames that wait

-- what is known of the change of one world to another
pub kept_by : (program : Program) (quiet test : ℕ → Bool) (statics : Objects) (now later : World) (g : ℕ) (starts : List World) (callers : List Caller)
    → ((stage : Stage) (effects : List Effect) (start : World) → IsAmong start starts → ChangesOnly stage effects start now → ChangesOnly stage effects start later)
    → AreKept program quiet test statics g starts callers now → AreKept program quiet test statics g starts callers later
kept_by program quiet test statics now later g [] [] change h = tt
kept_by program quiet test statics now later g [] (caller ∷ callers) change h = absurd h
kept_by program quiet test statics now later g (start ∷ starts) [] change h = absurd h
kept_by program quiet test statics now later g (start ∷ starts) (caller ∷ callers) change h = (
  change (waiting_stage program quiet test statics caller) (call_effects quiet (Some g)) start (inl refl) h.0,
  kept_by program quiet test statics now later caller.frame.function starts callers (λ stage effects other l k. change stage effects other (inr l) k) h.1,
)

-- where memory is as it was
changes_same : (stage : Stage) (effects : List Effect) (start world later : World) → later.memory ≡ world.memory → ChangesOnly stage effects start world → ChangesOnly stage effects start later
changes_same stage effects start world later e k = record {
  same_objects = subst (HasSameObjects start.memory) (sym e) k.same_objects;
  same = λ at n f free there. ap (λ memory. contents_at memory at) e ∙ k.same at n f free there;
}

module _ (program : Program) (quiet test : ℕ → Bool) (s t : State) (step : Step program s t) (k : AreLeftAlone program test s) (q : AreQuietFrames program quiet s) where
  contents_kept : (at : At) (n : ℕ) → at.name ≡ numbered n → IsClosedBelow test s.callers n → IsMade s.world.memory n → contents_at t.world.memory at ≡ contents_at s.world.memory at
  contents_kept at n e b made =
      let holds = closed_holds program test s t step k n b made.0 made.1 in
      ap (λ name. or_unset (value_in at.path (look t.world.memory name))) e
      ∙ ap (λ o. or_unset (value_in at.path o)) holds.is
      ∙ ap (λ (value : Value). or_unset (part_value value at.path)) holds.contents
      ∙ sym (ap (λ o. or_unset (value_in at.path o)) made.1)
      ∙ sym (ap (λ name. or_unset (value_in at.path (look s.world.memory name))) e)

  -- below a function that isn't quiet
  loudly_kept : (caller : Caller) (start : World) → HasLasted start s.world → HasSameObjects start.memory t.world.memory → ((n : ℕ) → IsPickedIn test caller.frame.objects n → IsClosedBelow test s.callers n)
      → ChangesOnly (waiting_stage program quiet test s.statics caller) (on_others ∷ []) start s.world → ChangesOnly (waiting_stage program quiet test s.statics caller) (on_others ∷ []) start t.world
  loudly_kept caller start lasted same below h = record {
    same_objects = same;
    same = λ at n e free there.
        contents_kept at n e (below n (picked_from test caller.frame.objects n (closed_of_free (closed_numbers test caller.frame.objects) n free))) (lasted.made n (was_made n (ap (absence_causes start.memory) (sym e) ∙ there)))
        ∙ h.same at n e free there;
  }
    where
      was_made : (n : ℕ) → absence_causes start.memory (numbered n) ≡ [] → IsMade start.memory n
      was_made n there = by_option (look_up start.memory n) refl
        where
          by_option : (o : Option Block) → look_up start.memory n ≡ o → IsMade start.memory n
          by_option None e = absurd (usable_made start.memory n there e)
          by_option (Some block) e = (block, e)

  -- and below one that is
  quietly_kept : (stage : Stage) (start : World) → HasLasted start s.world → ((n : ℕ) → IsAmong n (numbers_of s.frame.objects) → look_up start.memory n ≡ None) → quiet s.frame.function ≡ true
      → ChangesOnly stage [] start s.world → ChangesOnly stage [] start t.world
  quietly_kept stage start lasted missing silent h = by_step (quiet_step program quiet s t step (q.frame silent))
    where
      by_step : QuietStep program quiet step.0 s t → ChangesOnly stage [] start t.world
      by_step (inl c) = changes_same stage [] start s.world t.world c.memory h
      by_step (inr (inl c)) =
          subst (ChangesOnly stage [] start) (sym c.world)
          (changes_opened stage [] start s.world program step.0 c.definition c.arguments (λ j. never_made start.memory s.world.memory (step.0 j) (lasted.made (step.0 j)) (step.1.1 j)) h)
      by_step (inr (inr c)) = subst (ChangesOnly stage [] start) (sym c.world) (changes_ended stage [] start s.world (numbers_of s.frame.objects) missing h)

  module _ (starts : List World) (waiting : IsWaiting starts s) (later : IsWaiting (worlds_after starts s.world s.callers t.callers) t) where
    one_kept : (g : ℕ) (caller : Caller) (start : World) → (quiet g ≡ true → quiet s.frame.function ≡ true) → IsAmong start starts → IsAmong start (worlds_after starts s.world s.callers t.callers)
        → ((n : ℕ) → IsPickedIn test caller.frame.objects n → IsClosedBelow test s.callers n)
        → ChangesOnly (waiting_stage program quiet test s.statics caller) (call_effects quiet (Some g)) start s.world → ChangesOnly (waiting_stage program quiet test s.statics caller) (call_effects quiet (Some g)) start t.world
    one_kept g caller start up l l_later below h = by_quiet (quiet g) up h
      where
        by_quiet : (b : Bool) → (b ≡ true → quiet s.frame.function ≡ true) → ChangesOnly (waiting_stage program quiet test s.statics caller) (if b then [] else on_others ∷ []) start s.world
            → ChangesOnly (waiting_stage program quiet test s.statics caller) (if b then [] else on_others ∷ []) start t.world
        by_quiet true silent c = quietly_kept (waiting_stage program quiet test s.statics caller) start (waiting.since start l) (λ n m. waiting.frame.0.missing start l n m) (silent refl) c
        by_quiet false silent c = loudly_kept caller start (waiting.since start l) (later.since start l_later).same below c

    -- likewise those further down
    rest_kept : (g : ℕ) (fewer : List World) (callers : List Caller) → (quiet g ≡ true → quiet s.frame.function ≡ true) → CallersAreQuiet program quiet s.statics g callers
        → ((start : World) → IsAmong start fewer → IsAmong start starts) → ((start : World) → IsAmong start fewer → IsAmong start (worlds_after starts s.world s.callers t.callers))
        → ((n : ℕ) → IsClosedBelow test callers n → IsClosedBelow test s.callers n)
        → AreKept program quiet test s.statics g fewer callers s.world → AreKept program quiet test s.statics g fewer callers t.world
    rest_kept g [] [] up chain among among_later below h = tt
    rest_kept g [] (caller ∷ callers) up chain among among_later below h = absurd h
    rest_kept g (start ∷ fewer) [] up chain among among_later below h = absurd h
    rest_kept g (start ∷ fewer) (caller ∷ callers) up chain among among_later below h = (
      one_kept g caller start up (among start (inl refl)) (among_later start (inl refl)) (λ n l. below n (inl l)) h.0,
      rest_kept caller.frame.function fewer callers (λ e. up (chain.0 e).above) chain.1 (λ other l. among other (inr l)) (λ other l. among_later other (inr l)) (λ n l. below n (inr l)) h.1,
    )

    -- frames that wait still do, and one that begins to wait does
    pub kept_later : AreKept program quiet test s.statics s.frame.function starts s.callers s.world
        → AreKept program quiet test t.statics t.frame.function (worlds_after starts s.world s.callers t.callers) t.callers t.world
    kept_later h = by_shape (objects_shape program (λ objects. Unit {0}) (λ objects. Unit {0}) s t step (tt, tasks_any s.frame.tasks) (λ items u. tt) tt)
      where
        placed : (g : ℕ) (ws : List World) (callers : List Caller) → t.frame.function ≡ g → worlds_after starts s.world s.callers t.callers ≡ ws → t.callers ≡ callers → t.statics ≡ s.statics
            → AreKept program quiet test s.statics g ws callers t.world → AreKept program quiet test t.statics t.frame.function (worlds_after starts s.world s.callers t.callers) t.callers t.world
        placed g ws callers d e f u kept =
            subst (λ (os : Objects). AreKept program quiet test os t.frame.function (worlds_after starts s.world s.callers t.callers) t.callers t.world) (sym u)
            (subst (λ f. AreKept program quiet test s.statics f (worlds_after starts s.world s.callers t.callers) t.callers t.world) (sym d)
            (subst (λ (cs : List Caller). AreKept program quiet test s.statics g (worlds_after starts s.world s.callers t.callers) cs t.world) (sym f)
            (subst (λ (xs : List World). AreKept program quiet test s.statics g xs callers t.world) (sym e) kept)))

        by_starts : (caller : Caller) (behind : List Caller) → s.callers ≡ caller ∷ behind → t.callers ≡ behind → t.frame.function ≡ caller.frame.function → t.statics ≡ s.statics
            → (ws : List World) → starts ≡ ws → AreKept program quiet test s.statics s.frame.function ws (caller ∷ behind) s.world
            → AreKept program quiet test t.statics t.frame.function (worlds_after starts s.world s.callers t.callers) t.callers t.world
        by_starts caller behind was e d u [] f kept = absurd kept
        by_starts caller behind was e d u (start ∷ more) f kept =
            let chain = subst (CallersAreQuiet program quiet s.statics s.frame.function) was q.callers in
            let worlds =
            ap (λ (ws : List World). worlds_after ws s.world s.callers t.callers) f
            ∙ ap (λ (cs : List Caller). worlds_after (start ∷ more) s.world cs t.callers) was
            ∙ ap (λ (cs : List Caller). worlds_after (start ∷ more) s.world (caller ∷ behind) cs) e
            ∙ fewer_worlds start more s.world behind caller in
            placed caller.frame.function more behind d worlds e u
            (rest_kept caller.frame.function more behind (λ loud. (chain.0 loud).above) chain.1 (λ one l. subst (IsAmong one) (sym f) (inr l)) (λ one l. subst (IsAmong one) (sym worlds) l)
            (λ n b. subst (λ (cs : List Caller). IsClosedBelow test cs n) (sym was) (inr b)) kept.1)

        by_shape : Shape program (λ objects. Unit {0}) any_name any_run step.0 s t → AreKept program quiet test t.statics t.frame.function (worlds_after starts s.world s.callers t.callers) t.callers t.world
        by_shape (inl c) =
            let worlds = ap (λ (cs : List Caller). worlds_after starts s.world s.callers cs) c.callers ∙ same_worlds starts s.world s.callers in
            placed s.frame.function starts s.callers c.function worlds c.callers c.statics
            (rest_kept s.frame.function starts s.callers (λ e. e) q.callers (λ one l. l) (λ one l. subst (IsAmong one) (sym worlds) l) (λ n b. b) h)
        by_shape (inr (inl c)) =
            let worlds = ap (λ (cs : List Caller). worlds_after starts s.world s.callers cs) c.callers ∙ more_worlds starts s.world s.callers c.caller in
            let stage = waiting_stage program quiet test s.statics c.caller in
            let effects = call_effects quiet (Some t.frame.function) in
            placed t.frame.function (s.world ∷ starts) (c.caller ∷ s.callers) refl worlds c.callers c.statics (
              subst (ChangesOnly stage effects s.world) (sym c.world) (changes_opened stage effects s.world s.world program step.0 c.definition c.arguments step.1.1 (changes_none stage effects s.world)),
              subst (λ g. AreKept program quiet test s.statics g starts s.callers t.world) (sym c.function)
                  (rest_kept s.frame.function starts s.callers (λ e. e) q.callers (λ one l. l) (λ one l. subst (IsAmong one) (sym worlds) (inr l)) (λ n b. b) h),
            )
        by_shape (inr (inr c)) =
            by_starts c.caller c.behind c.was c.callers (ap (λ (frame : Frame). frame.function) c.frame) c.statics starts refl
            (subst (λ (cs : List Caller). AreKept program quiet test s.statics s.frame.function starts cs s.world) c.was h)
