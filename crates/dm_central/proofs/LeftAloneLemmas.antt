-- Each step leaves frames that leave the closed objects of the frames below them alone.
use Rattle.std.specs.Prelude.{◌≡◌, refl, ◌⊎◌, ℕ, Bool, true, List, [], ◌∷◌, ◌++◌, length, Option, Some, None}
use Rattle.std.proofs.Common.{ap, sym, ◌∙◌, subst, inl, inr}
use Rattle.dm_token.specs.declared.place.Place.{Place}
use Rattle.dm_tree.specs.Trees.{object, store, update, count, call, Tree, parts_of}
use Rattle.dm_meaning.specs.Among.{IsAmong}
use Rattle.dm_meaning.specs.Expressions.{goes, calls}
use Rattle.dm_meaning.specs.Memory.{look_up}
use Rattle.dm_meaning.specs.Operations.{of_value, designates, World, Objects, object_named}
use Rattle.dm_meaning.specs.Programs.{Program, Definition}
use Rattle.dm_meaning.specs.Running.{Doing, evaluates as evaluates_label, Run, done, to_do, Runs, no_runs, more_runs, begun, filled_in, locks_in}
use Rattle.dm_meaning.specs.States.{Use, Task, evaluates, Frame, Caller, State}
use Rattle.dm_meaning.specs.Statements.{declared_in, named_from, unfolded, entered}
use Rattle.dm_meaning.specs.Steps.{opened_frame, Step}
use Rattle.dm_meaning.specs.Units.{start, Begins}
use Rattle.dm_meaning.specs.Values.{numbered}
use Rattle.dm_meaning.proofs.AmongLemmas.{among_left, among_right, among_either}
use Rattle.dm_meaning.proofs.OptionLemmas.{none_is_some}
use Rattle.dm_rewrite.specs.Closed.{MemoryAvoids, IsClosedIn}
use Rattle.dm_rewrite.specs.ClosedStates.{AreTasksClosed, IsClosedState}
use Rattle.dm_rewrite.specs.Effects.{Effect, by_number, target_effects, own_effects, effects_of, effects_in, Hits, IsFree}
use Rattle.dm_rewrite.proofs.ClosedStateLemmas.{only_join, unfolded_closed}
use Rattle.dm_rewrite.proofs.ShrinkEffectLemmas.{run_calm}
use Rattle.dm_rewrite.proofs.UnnamedLemmas.{begun_free}
use Rattle.dm_central.specs.ClosedFrames.{CallersHave, AreClosedIn, AreAllClosed}
use Rattle.dm_central.specs.LeftAlone.{IsUnnamed, alone_stage, HasNoEffect, AllUnnamed, IsOther, HasNoEffects, FrameLeaves, IsClosedBelow, CallersLeave, AreLeftAlone}
use Rattle.dm_central.specs.Waiting.{AreOwn}
use Rattle.dm_central.proofs.ClosedFrameLemmas.{from_named}
use Rattle.dm_central.proofs.ShapeLemmas.{items_have_none, Shape, RunsKeep, step_shape}
use Rattle.dm_central.proofs.SteadyLemmas.{named_among}

pub same_number : (m n : ℕ) → numbered m ≡ numbered n → m ≡ n
same_number m n e = cc

-- ---- effects on an object for which no name stands

module _ (n : ℕ) where
  abbrev pub Free : List Effect → Type 0
  Free effects = IsFree (n ∷ []) effects n

  pub none_free : Free []
  none_free effect l hit = absurd l

  free_left : (xs ys : List Effect) → Free (xs ++ ys) → Free xs
  free_left xs ys h effect l = h effect (among_left effect xs ys l)

  free_right : (xs ys : List Effect) → Free (xs ++ ys) → Free ys
  free_right xs ys h effect l = h effect (among_right effect xs ys l)

  pub joined_free : (xs ys : List Effect) → Free xs → Free ys → Free (xs ++ ys)
  joined_free xs ys h k effect l hit = by_side (among_either effect xs ys l)
    where
      by_side : IsAmong effect xs ⊎ IsAmong effect ys → ⊥
      by_side (inl m) = h effect m hit
      by_side (inr m) = k effect m hit

  number_free : (o : Option ℕ) → (o ≡ Some n → ⊥) → Free (by_number o)
  number_free None h effect l hit = absurd l
  number_free (Some m) h effect (inl e) hit = h (ap Some (subst (λ x. Hits (n ∷ []) x n) e hit))
  number_free (Some m) h effect (inr l) hit = absurd l

module _ (program : Program) (n : ℕ) (objects others : Objects) (unnamed : IsUnnamed n others) where
  target_anywhere : (run : Run) → Free n (target_effects objects run) → Free n (target_effects others run)
  target_anywhere (to_do (evaluates_label (object d)) kind place parts) h = number_free n (object_named others d) (λ e. unnamed (d, n) (named_among others d n e) refl)
  target_anywhere (to_do doing kind place parts) h = h
  target_anywhere (done kind (designates at) locks) h = h
  target_anywhere (done kind (of_value value) locks) h = h

  own_anywhere : (doing : Doing) (parts : Runs) → Free n (own_effects (alone_stage program objects n) doing parts) → Free n (own_effects (alone_stage program others n) doing parts)
  own_anywhere (evaluates_label store) (more_runs left rest) h = target_anywhere left h
  own_anywhere (evaluates_label (update op works)) (more_runs left rest) h = target_anywhere left h
  own_anywhere (evaluates_label (count plus before)) (more_runs left rest) h = target_anywhere left h
  own_anywhere (evaluates_label call) (more_runs named rest) h = h
  own_anywhere doing parts h = h

  mutual
    -- where there is none, there is none by other names
    pub run_anywhere : (run : Run) → Free n (effects_of (alone_stage program objects n) run) → Free n (effects_of (alone_stage program others n) run)
    run_anywhere (done kind result locks) h = h
    run_anywhere (to_do doing kind place parts) h =
        let own = own_effects (alone_stage program objects n) doing parts in
        let below = effects_in (alone_stage program objects n) parts in
        joined_free n (own_effects (alone_stage program others n) doing parts) (effects_in (alone_stage program others n) parts) (own_anywhere doing parts (free_left n own below h))
        (runs_anywhere parts (free_right n own below h))

    runs_anywhere : (parts : Runs) → Free n (effects_in (alone_stage program objects n) parts) → Free n (effects_in (alone_stage program others n) parts)
    runs_anywhere no_runs h = h
    runs_anywhere (more_runs first rest) h =
        let one = effects_of (alone_stage program objects n) first in
        let more = effects_in (alone_stage program objects n) rest in
        joined_free n (effects_of (alone_stage program others n) first) (effects_in (alone_stage program others n) rest) (run_anywhere first (free_left n one more h))
        (runs_anywhere rest (free_right n one more h))

-- what begins has no effect on it
pub begun_alone : (program : Program) (n : ℕ) (tree : Tree) → HasNoEffect program n (begun tree)
begun_alone program n tree objects unnamed = begun_free (alone_stage program objects n) n (inl refl) (λ d e. unnamed (d, n) (named_among objects d n e) refl) tree

-- what is initialised is an object of the frame
pub named_other : (B : ℕ → Type 0) (statics objects : Objects) → AllUnnamed B statics objects → (d m : ℕ) → object_named objects d ≡ Some m → IsOther B (numbered m)
named_other B statics objects h d m e n b f = h n b (d, m) (among_right (d, m) statics objects (named_among objects d m e)) (same_number m n f)

-- ---- steps

-- the first full expression names a closed object only where it reads or writes
pub tasks_closed : (n d : ℕ) (state : State) → IsClosedState n d state → AreTasksClosed n d (state.statics ++ state.frame.objects) (unfolded state.frame.tasks)
tasks_closed n d state c =
    unfolded_closed n d (state.statics ++ state.frame.objects) (only_join n d state.statics state.frame.objects c.unreached.statics c.unreached.frame.0) state.frame.tasks c.unreached.frame.1

-- the closed object of a frame that waits
pub below_closed : (test : ℕ → Bool) (state : State) (callers : List Caller) → CallersHave (AreClosedIn test state) callers → (n : ℕ) → IsClosedBelow test callers n → (d : ℕ) × (test d ≡ true) × IsClosedState n d state
below_closed test state [] h n b = absurd b
below_closed test state (caller ∷ callers) h n (inl (d, picked, l)) = (d, picked, h.0.0 (d, n) l picked)
below_closed test state (caller ∷ callers) h n (inr b) = below_closed test state callers h.1 n b

module _ (program : Program) (test : ℕ → Bool) (starts : List World) (s t : State) (step : Step program s t) (own : AreOwn s.statics starts s.frame.objects) (h : AreAllClosed test s) (k : AreLeftAlone program test s) where
  Below : ℕ → Type 0
  Below n = IsClosedBelow test s.callers n

  below : (n : ℕ) → Below n → (d : ℕ) × (test d ≡ true) × IsClosedState n d s
  unfolding Below
  below n b = below_closed test s s.callers h.callers n b

  here : Objects
  here = s.statics ++ s.frame.objects

  first_closed : (n d : ℕ) → IsClosedState n d s → (place : Place) (run : Run) (use_of : Use) (rest : List Task) → unfolded s.frame.tasks ≡ evaluates place run use_of ∷ rest
      → (m : ℕ) → IsAmong m (n ∷ []) → IsClosedIn m here run
  unfolding here
  first_closed n d c place run use_of rest e m (inl f) = subst (λ x. IsClosedIn x here run) (sym f) (subst (AreTasksClosed n d here) e (tasks_closed n d s c)).0.0
  first_closed n d c place run use_of rest e m (inr l) = absurd l

  avoided : (n d : ℕ) → IsClosedState n d s → (m : ℕ) → IsAmong m (n ∷ []) → MemoryAvoids m s.world.memory
  avoided n d c m (inl f) = subst (λ x. MemoryAvoids x s.world.memory) (sym f) c.unreached.memory
  avoided n d c m (inr l) = absurd l

  runs_keep : RunsKeep program (AllUnnamed Below s.statics) (IsOther Below) (HasNoEffects program Below) s
  unfolding Below here
  runs_keep = record {
    goes_on = λ place run later use_of rest world e l so n b objects unnamed.
        let c = below n b in
        run_anywhere program n here objects unnamed later
        (run_calm (alone_stage program here n) s.world (locks_in run) (avoided n c.0 c.2) run (λ m among. inl (first_closed n c.0 c.2 place run use_of rest e m among)) (goes world later) l n
        (so n b here (k.frame.0 n b)));
    resumes = λ place run use_of rest f arguments kind hole e l so value n b objects unnamed.
        let c = below n b in
        run_anywhere program n here objects unnamed (filled_in hole (done kind (of_value value) []))
        ((run_calm (alone_stage program here n) s.world (locks_in run) (avoided n c.0 c.2) run (λ m among. inl (first_closed n c.0 c.2 place run use_of rest e m among)) (calls f arguments kind hole) l).1
        value [] (λ m free effect none. absurd none) n (so n b here (k.frame.0 n b)));
  }

  -- what is made is none of them
  other_than : (n d : ℕ) → IsClosedState n d s → (j : ℕ) → step.0 j ≡ n → ⊥
  other_than n d c j e = none_is_some c.made.0 (sym (step.1.1 j) ∙ ap (look_up s.world.memory) e ∙ c.made.1)

  entered_unnamed : (items : List Tree) → AllUnnamed Below s.statics (entered program step.0 items s.frame.objects)
  unfolding Below
  entered_unnamed items n b entry l e = by_part (among_either entry s.statics (entered program step.0 items s.frame.objects) l)
    where
      by_origin : IsAmong entry s.frame.objects ⊎ ((j : ℕ) × (entry.1 ≡ step.0 j)) → ⊥
      by_origin (inl m) = k.frame.0 n b entry (among_right entry s.statics s.frame.objects m) e
      by_origin (inr (j, f)) = let c = below n b in other_than n c.0 c.2 j (sym f ∙ e)

      by_part : IsAmong entry s.statics ⊎ IsAmong entry (entered program step.0 items s.frame.objects) → ⊥
      by_part (inl m) = k.frame.0 n b entry (among_left entry s.statics s.frame.objects m) e
      by_part (inr m) = by_origin (from_named step.0 0 (declared_in program items) s.frame.objects entry m)

  -- the objects of a function that is called
  opened_unnamed : (definition : Definition) (n : ℕ) → ((entry : ℕ × ℕ) → IsAmong entry s.statics → entry.1 ≡ n → ⊥) → ((j : ℕ) → step.0 j ≡ n → ⊥)
      → IsUnnamed n (s.statics ++ (opened_frame program step.0 definition).objects)
  opened_unnamed definition n not_static not_new entry l e = by_part (among_either entry s.statics (opened_frame program step.0 definition).objects l)
    where
      given : Objects
      given = named_from step.0 0 definition.parameters []

      by_given : IsAmong entry [] ⊎ ((j : ℕ) × (entry.1 ≡ step.0 j)) → ⊥
      by_given (inl m) = absurd m
      by_given (inr (j, f)) = not_new j (sym f ∙ e)

      by_local : IsAmong entry given ⊎ ((j : ℕ) × (entry.1 ≡ step.0 j)) → ⊥
      by_local (inl m) = by_given (from_named step.0 0 definition.parameters [] entry m)
      by_local (inr (j, f)) = not_new j (sym f ∙ e)

      by_part : IsAmong entry s.statics ⊎ IsAmong entry (opened_frame program step.0 definition).objects → ⊥
      by_part (inl m) = not_static entry m e
      by_part (inr m) = by_local (from_named step.0 (length definition.parameters) (declared_in program (parts_of definition.body)) given entry m)

  pub left_alone_later : AreLeftAlone program test t
  unfolding Below
  left_alone_later = by_shape (step_shape program (AllUnnamed Below s.statics) (IsOther Below) (HasNoEffects program Below) (λ objects unnamed d m e. named_other Below s.statics objects unnamed d m e) (λ tree n b. begun_alone program n tree)
      (λ objects. Unit {0}) s t step k.frame runs_keep (λ items q. entered_unnamed items) tt)
    where
      place_in : (callers : List Caller) (frame : Frame) (statics : Objects) → t.callers ≡ callers → t.frame ≡ frame → t.statics ≡ statics
          → FrameLeaves program (IsClosedBelow test callers) statics frame → CallersLeave program test statics callers → AreLeftAlone program test t
      place_in callers frame statics e f g a b = record {
        frame =
            subst (λ (cs : List Caller). FrameLeaves program (IsClosedBelow test cs) t.statics t.frame) (sym e)
            (subst (λ (os : Objects). FrameLeaves program (IsClosedBelow test callers) os t.frame) (sym g) (subst (FrameLeaves program (IsClosedBelow test callers) statics) (sym f) a));
        callers = subst (CallersLeave program test t.statics) (sym e) (subst (λ (os : Objects). CallersLeave program test os callers) (sym g) b);
      }

      by_shape : Shape program (AllUnnamed Below s.statics) (IsOther Below) (HasNoEffects program Below) step.0 s t → AreLeftAlone program test t
      by_shape (inl c) = place_in s.callers t.frame s.statics c.callers refl c.statics c.frame k.callers
      by_shape (inr (inl c)) =
          place_in (c.caller ∷ s.callers) (opened_frame program step.0 c.definition) s.statics c.callers c.frame c.statics
          (λ n b. by_depth n b, items_have_none program (AllUnnamed (IsClosedBelow test (c.caller ∷ s.callers)) s.statics) (IsOther (IsClosedBelow test (c.caller ∷ s.callers))) (HasNoEffects program (IsClosedBelow test (c.caller ∷ s.callers))) (parts_of c.definition.body))
          ((c.waits, c.use_of, c.resumes), k.callers)
        where
          by_depth : (n : ℕ) → IsClosedBelow test (c.caller ∷ s.callers) n → IsUnnamed n (s.statics ++ (opened_frame program step.0 c.definition).objects)
          by_depth n (inl (d, picked, l)) =
              let there = subst (IsAmong (d, n)) c.objects l in
              opened_unnamed c.definition n (λ entry m e. own.local entry (d, n) m there e) (other_than n d (h.frame.0 (d, n) there picked))
          by_depth n (inr b) =
              let at = below n b in opened_unnamed c.definition n (λ entry m e. k.frame.0 n b entry (among_left entry s.statics s.frame.objects m) e) (other_than n at.0 at.2)
      by_shape (inr (inr c)) =
          let waited = subst (CallersLeave program test s.statics) c.was k.callers in
          place_in c.behind _ s.statics c.callers c.frame c.statics (waited.0.0.0, ((waited.0.2 c.value, waited.0.1), waited.0.0.1)) waited.1

-- when a run begins, no frame waits
pub begins_left_alone : (program : Program) (test : ℕ → Bool) (input : List ℕ) (state : State) → Begins program input state → AreLeftAlone program test state
begins_left_alone program test input state (bytes, names, fresh, main, is_main, e) = subst (AreLeftAlone program test) (sym e) (record {
  frame = (λ n b. absurd b, items_have_none program (AllUnnamed (λ n. ⊥) (start names program main input).statics) (IsOther (λ n. ⊥)) (HasNoEffects program (λ n. ⊥)) (parts_of main.body));
  callers = tt;
})
