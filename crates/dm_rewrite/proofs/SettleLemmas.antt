-- A tree that neither stores nor calls is evaluated in one go: beside any locks it comes to its result, where it reads nothing that is locked, and
-- else it is undefined.
use Rattle.std.specs.Prelude.{◌≡◌, refl, ◌⊎◌, ℕ, zero, suc, ◌+◌, ◌≤◌, true, false, List, [], ◌∷◌, ◌++◌, Option, Some, None}
use Rattle.std.proofs.Common.{arith, true≢false, ap, sym, ◌∙◌, subst, inl, inr}
use Rattle.dm_token.specs.declared.place.Place.{Place}
use Rattle.dm_meaning.specs.declared.cause.Cause.{Cause}
use Rattle.dm_meaning.specs.Among.{IsAmong}
use Rattle.dm_meaning.specs.Machines.{going, undefined, Goes}
use Rattle.dm_meaning.specs.Simulation.{GoesWrong}
use Rattle.dm_meaning.specs.Values.{At, overlaps_any}
use Rattle.dm_meaning.specs.Memory.{IsFresh}
use Rattle.dm_meaning.specs.Programs.{Program}
use Rattle.dm_meaning.specs.Operations.{World, Scene}
use Rattle.dm_meaning.specs.Running.{Doing, evaluates as evaluates_, gives_truth, gives_value, Run, done, to_do, locks_in, locks_in_all, Hole, here, within, Holes, in_first, in_others, filled_in, all_filled_in, IsOpen, hole_in}
use Rattle.dm_meaning.specs.Expressions.{Move, goes, calls, fails, exits, lifted, kind_of_run, moves}
use Rattle.dm_meaning.specs.States.{Use, Task, evaluates, State}
use Rattle.dm_meaning.specs.Statements.{unfolded}
use Rattle.dm_meaning.specs.Steps.{moved, scene_of, task_steps, steps_from, next}
use Rattle.dm_meaning.specs.Units.{machine_of}
use Rattle.dm_rewrite.specs.Aside.{Leads}
use Rattle.dm_rewrite.specs.Computed.{Computed, computed, IsPure}
use Rattle.dm_rewrite.specs.PureSteps.{Keeps, Meets, StepKeeps, IsAt, StandsStill, Evaluated}
use Rattle.dm_meaning.proofs.PassStateLemmas.{step_of_expression}
use Rattle.dm_meaning.proofs.MoveLemmas.{has_move, move_lifts}
use Rattle.dm_meaning.proofs.OptionLemmas.{none_is_some, some_is_some}
use Rattle.dm_meaning.proofs.StepLemmas.{fresh_names}
use Rattle.dm_meaning.proofs.ShrinkLemmas.{own_left, left_in, all_left_in, Leaves, move_leaves}
use Rattle.dm_rewrite.proofs.ComputedLemmas.{pure_locks, computed_step}

-- a step that goes on with a tree, and one that is undefined
abbrev pub went : World → Run → Move Run Hole
went world run = goes world run

abbrev pub failed : Cause → Place → Move Run Hole
failed cause place = fails cause place

module _ (scene : Scene) (world : World) (locks : List At) where
  -- so many steps beside these locks, in one world
  abbrev pub Beside : ℕ → Run → Run → Type 0
  Beside zero run other = run ≡ other
  Beside (suc n) run other = (middle : Run) × IsPure middle × IsAmong (went world middle) (moves scene world locks run) × Beside n middle other

  pub record FailsBeside (run : Run) : Type 0 where
    pub count : ℕ
    pub last : Run
    pub steps : Beside count run last
    pub cause : Cause
    pub place : Place
    pub fails : IsAmong (failed cause place) (moves scene world locks last)

  pub record ComesTo (run : Run) : Type 0 where
    pub found : Computed
    pub is : computed scene world run ≡ Some found
    pub count : ℕ
    pub steps : Beside count run (done (kind_of_run run) found.result [])
    pub free : (at : At) → IsAmong at found.reads → overlaps_any at locks ≡ false

  fails_later : (run middle : Run) → IsPure middle → IsAmong (went world middle) (moves scene world locks run) → FailsBeside middle → FailsBeside run
  fails_later run middle pure step h = record { count = suc h.count; last = h.last; steps = (middle, pure, step, h.steps); cause = h.cause; place = h.place; fails = h.fails }

  comes_later : (run middle : Run) → IsPure middle → IsAmong (went world middle) (moves scene world locks run) → kind_of_run middle ≡ kind_of_run run
      → (o : Option Computed) → computed scene world run ≡ o
      → (h : ComesTo middle) → Keeps locks o (Some h.found) → ComesTo run
  comes_later run middle pure step same None e h keeps = absurd (none_is_some h.found (sym keeps))
  comes_later run middle pure step same (Some was) e h keeps = record {
    found = was;
    is = e;
    count = suc h.count;
    steps =
        (middle, pure, step, subst (λ last. Beside h.count middle last) (ap (λ kind. done kind h.found.result []) same ∙ ap (λ r. done (kind_of_run run) r []) keeps.result) h.steps);
    free = λ at k. by_met at (keeps.met at k);
  }
    where
      by_met : (at : At) → IsAmong at h.found.reads ⊎ (overlaps_any at locks ≡ false) → overlaps_any at locks ≡ false
      by_met at (inl k) = h.free at k
      by_met at (inr k) = k

  less_left : (a b n : ℕ) → a + 1 ≤ b → b ≤ suc n → a ≤ n
  less_left a b n h k = omega (arith, h, k)

  settle_by : (n : ℕ) → ((run : Run) → left_in run ≤ n → IsPure run → ComesTo run ⊎ FailsBeside run) → (run : Run) → left_in run ≤ suc n → (m : Move Run Hole)
      → IsAmong m (moves scene world locks run)
      → StepKeeps scene world locks (kind_of_run run) (computed scene world run) m → Leaves (left_in run) m → ComesTo run ⊎ FailsBeside run
  settle_by n later run few (goes after middle) k fits less =
      let step : IsAmong (went world middle) (moves scene world locks run) = subst (λ w. IsAmong (went w middle) (moves scene world locks run)) fits.0 k in
      by_rest step (later middle (less_left (left_in middle) (left_in run) n less few) fits.1)
    where
      by_rest : IsAmong (went world middle) (moves scene world locks run) → ComesTo middle ⊎ FailsBeside middle → ComesTo run ⊎ FailsBeside run
      by_rest step (inl h) =
          inl (comes_later run middle fits.1 step fits.2 (computed scene world run) refl h (subst (Keeps locks (computed scene world run)) h.is fits.3))
      by_rest step (inr h) = inr (fails_later run middle fits.1 step h)
  settle_by n later run few (calls f arguments kind hole) k fits less = absurd fits
  settle_by n later run few (fails cause place) k fits less = inr (record { count = 0; last = run; steps = refl; cause = cause; place = place; fails = k })
  settle_by n later run few (exits status) k fits less = absurd fits

  settles_in : (n : ℕ) (run : Run) → left_in run ≤ n → IsPure run → ComesTo run ⊎ FailsBeside run
  settles_in n (done kind result own) few pure =
      inl (record { found = record { result = result; reads = [] }; is = refl; count = 0; steps = ap (done kind result) pure; free = λ at k. absurd k })
  settles_in zero (to_do doing kind place parts) few pure = absurd (nothing_left doing few)
    where
      nothing_left : (d : Doing) → own_left d + all_left_in parts ≤ zero → ⊥
      nothing_left (evaluates_ label) h = omega (arith, h)
      nothing_left gives_truth h = omega (arith, h)
      nothing_left gives_value h = omega (arith, h)
  settles_in (suc n) (to_do doing kind place parts) few pure =
      let run = to_do doing kind place parts in
      let step = has_move scene world locks run tt in
      settle_by n (settles_in n) run few step.0 step.1 (computed_step scene world locks run pure step.0 step.1) (move_leaves scene world locks run step.0 step.1)

  -- A tree that neither stores nor calls comes to its result, reading nothing that is locked, or is undefined.
  pub settles : (run : Run) → IsPure run → ComesTo run ⊎ FailsBeside run
  settles run pure = settles_in (left_in run) run (omega arith) pure

  -- Where it comes to nothing, or reads what is locked, it is undefined.
  pub hopeless : (run : Run) → IsPure run → computed scene world run ≡ None → FailsBeside run
  hopeless run pure e = by_either (settles run pure)
    where
      by_either : ComesTo run ⊎ FailsBeside run → FailsBeside run
      by_either (inl h) = absurd (none_is_some h.found (sym e ∙ h.is))
      by_either (inr h) = h

  pub locked_out : (run : Run) → IsPure run → (found : Computed) → computed scene world run ≡ Some found → (at : At) → IsAmong at found.reads
      → overlaps_any at locks ≡ true → FailsBeside run
  locked_out run pure found e at k l = by_either (settles run pure)
    where
      by_either : ComesTo run ⊎ FailsBeside run → FailsBeside run
      by_either (inl h) = absurd (true≢false (sym l ∙ h.free at (subst (λ w. IsAmong at w.reads) (some_is_some found h.found (sym e ∙ h.is)) k)))
      by_either (inr h) = h

-- ---- what a tree comes to after steps

pub leads_on : (u v w : Computed) → Leads u v → Leads v w → Leads u w
leads_on u v w h k = record { result = k.result ∙ h.result; fewer = λ at l. h.fewer at (k.fewer at l) }

module _ (scene : Scene) (world : World) where
  pub record Left (run : Run) (was : Computed) : Type 0 where
    pub now : Computed
    pub is : computed scene world run ≡ Some now
    pub leads : Leads was now

  left_by : (locks : List At) (was : Computed) (o : Option Computed) → Keeps locks (Some was) o → (now : Computed) × (o ≡ Some now) × Leads was now
  left_by locks was None h = absurd h
  left_by locks was (Some now) h = (now, refl, record { result = h.result; fewer = h.fewer })

  pub step_left : (locks : List At) (run middle : Run) → IsPure run → (was : Computed) → computed scene world run ≡ Some was
      → IsAmong (went world middle) (moves scene world locks run) → Left middle was
  step_left locks run middle pure was e k =
      let fits = computed_step scene world locks run pure (went world middle) k in
      let there = left_by locks was (computed scene world middle) (subst (λ o. Keeps locks o (computed scene world middle)) e fits.3) in
      record { now = there.0; is = there.1; leads = there.2 }

  pub steps_left : (locks : List At) (n : ℕ) (run last : Run) → IsPure run → (was : Computed) → computed scene world run ≡ Some was
      → Beside scene world locks n run last → Left last was
  steps_left locks zero run last pure was e steps =
      record { now = was; is = ap (computed scene world) (sym steps) ∙ e; leads = record { result = refl; fewer = λ at k. k } }
  steps_left locks (suc n) run last pure was e (middle, pure_later, k, more) =
      let one = step_left locks run middle pure was e k in
      let rest = steps_left locks n middle last pure_later one.now one.is more in
      record { now = rest.now; is = rest.is; leads = leads_on was one.now rest.now one.leads rest.leads }

  last_pure : (locks : List At) (n : ℕ) (run last : Run) → IsPure run → Beside scene world locks n run last → IsPure last
  last_pure locks zero run last pure steps = subst IsPure steps pure
  last_pure locks (suc n) run last pure (middle, pure_later, k, more) = last_pure locks n middle last pure_later more

  -- What is undefined comes to nothing, or reads what is locked.
  pub undefined_meets : (locks : List At) (run : Run) → IsPure run → FailsBeside scene world locks run → (was : Computed)
      → computed scene world run ≡ Some was → (at : At) × IsAmong at was.reads × (overlaps_any at locks ≡ true)
  undefined_meets locks run pure h was e =
      let pure_last = last_pure locks h.count run h.last pure h.steps in
      let left = steps_left locks h.count run h.last pure was e h.steps in
      let meets = subst (Meets locks) left.is (computed_step scene world locks h.last pure_last (failed h.cause h.place) h.fails) in
      (meets.0, left.leads.fewer meets.0 meets.1, meets.2)

-- ---- in a state of a program

mutual
  pub same_locks : (hole : Hole) (a b : Run) → locks_in a ≡ locks_in b → locks_in (filled_in hole a) ≡ locks_in (filled_in hole b)
  same_locks here a b e = e
  same_locks (within doing kind place holes) a b e = all_same_locks holes a b e

  all_same_locks : (holes : Holes) (a b : Run) → locks_in a ≡ locks_in b → locks_in_all (all_filled_in holes a) ≡ locks_in_all (all_filled_in holes b)
  all_same_locks (in_first hole rest) a b e = ap (λ l. l ++ locks_in_all rest) (same_locks hole a b e)
  all_same_locks (in_others first holes) a b e = ap (λ l. locks_in first ++ l) (all_same_locks holes a b e)

module _ (program : Program) (names : ℕ → ℕ) (place : Place) (hole : Hole) (opened : IsOpen hole) (use_of : Use) (rest : List Task) where
  -- the state with this tree in its full expression
  abbrev pub with_run : State → Run → State
  with_run state run = record state { frame = record state.frame { tasks = evaluates place (filled_in hole run) use_of ∷ rest } }

  pub step_in : (state : State) (run : Run) (m : Move Run Hole) → state.standing ≡ going → unfolded state.frame.tasks ≡ evaluates place (filled_in hole run) use_of ∷ rest
      → IsAmong m (moves (scene_of program state) state.world (locks_in (filled_in hole run)) run)
      → IsAmong (moved program names state rest place use_of (lifted (filled_in hole) (hole_in hole) m)) (next names program state)
  step_in state run m stands e k =
      subst
      (λ standing. IsAmong (moved program names state rest place use_of (lifted (filled_in hole) (hole_in hole) m)) (steps_from standing (task_steps program names state (unfolded state.frame.tasks))))
      (sym stands)
      (subst (λ tasks. IsAmong (moved program names state rest place use_of (lifted (filled_in hole) (hole_in hole) m)) (task_steps program names state tasks)) (sym e)
      (step_of_expression program names state rest place use_of (filled_in hole run) (lifted (filled_in hole) (hole_in hole) m)
      (move_lifts (scene_of program state) state.world (locks_in (filled_in hole run)) hole run m opened k)))

  still_later : (state : State) (run last : Run) (next_state : State) → StandsStill place hole use_of rest (with_run state run) last next_state
      → StandsStill place hole use_of rest state last next_state
  still_later state run last next_state h = record { tasks = h.tasks; is = h.is; evaluating = h.evaluating }

  -- The whole program takes these steps, while everything else of its state stands still.
  pub goes_beside : (n : ℕ) (state : State) (run last : Run) (locks : List At) → state.standing ≡ going → IsFresh names state.world.memory
      → unfolded state.frame.tasks ≡ evaluates place (filled_in hole run) use_of ∷ rest → locks ≡ locks_in (filled_in hole run) → IsPure run
      → Beside (scene_of program state) state.world locks n run last
      → (next_state : State) × Goes (machine_of program) n state next_state × StandsStill place hole use_of rest state last next_state
  unfolding Goes
  goes_beside zero state run last locks stands fresh e same pure steps =
      (state, refl, record { tasks = state.frame.tasks; is = refl; evaluating = e ∙ ap (λ r. evaluates place (filled_in hole r) use_of ∷ rest) steps })
  goes_beside (suc n) state run last locks stands fresh e same pure (middle, pure_later, k, more) =
      let one : IsAmong (with_run state middle) (next names program state) =
      step_in state run (went state.world middle) stands e (subst (λ l. IsAmong (went state.world middle) (moves (scene_of program state) state.world l run)) same k) in
      let later =
      goes_beside n (with_run state middle) middle last locks stands fresh refl
      (same ∙ same_locks hole run middle (pure_locks run pure ∙ sym (pure_locks middle pure_later))) pure_later more in
      (later.0, (with_run state middle, (names, fresh, one), later.1), still_later state middle last later.0 later.2)

  -- Where a tree in its full expression is undefined, the program can go wrong.
  pub wrong_beside : (n : ℕ) (state : State) (run last : Run) (locks : List At) → state.standing ≡ going → IsFresh names state.world.memory
      → unfolded state.frame.tasks ≡ evaluates place (filled_in hole run) use_of ∷ rest → locks ≡ locks_in (filled_in hole run) → IsPure run
      → Beside (scene_of program state) state.world locks n run last → (cause : Cause) (at : Place)
      → IsAmong (failed cause at) (moves (scene_of program state) state.world locks last) → GoesWrong (machine_of program) state
  unfolding Goes
  wrong_beside zero state run last locks stands fresh e same pure steps cause at k =
      let one = step_in state run (failed cause at) stands e
      (subst (λ l. IsAmong (failed cause at) (moves (scene_of program state) state.world l run)) same (subst (λ r. IsAmong (failed cause at) (moves (scene_of program state) state.world locks r)) (sym steps) k)) in
      (1, record state { standing = undefined cause at }, (record state { standing = undefined cause at }, (names, fresh, one), refl), cause, at, refl)
  wrong_beside (suc n) state run last locks stands fresh e same pure (middle, pure_later, l, more) cause at k =
      let one : IsAmong (with_run state middle) (next names program state) =
      step_in state run (went state.world middle) stands e (subst (λ x. IsAmong (went state.world middle) (moves (scene_of program state) state.world x run)) same l) in
      let later =
      wrong_beside n (with_run state middle) middle last locks stands fresh refl
      (same ∙ same_locks hole run middle (pure_locks run pure ∙ sym (pure_locks middle pure_later))) pure_later more cause at k in
      (suc later.0, later.1, (with_run state middle, (names, fresh, one), later.2), later.3, later.4, later.5)

-- the state, and the tree in it
module _ (program : Program) (place : Place) (hole : Hole) (use_of : Use) (rest : List Task) (state : State) (run : Run)
    (there : IsAt place hole use_of rest state run) (pure : IsPure run) where
  abbrev Locks : List At
  Locks = locks_in (filled_in hole run)

  evaluated : ComesTo (scene_of program state) state.world Locks run → Evaluated program place hole use_of rest state run
  evaluated h =
      let fresh = fresh_names state.world.memory in
      let last = done (kind_of_run run) h.found.result [] in
      let after = goes_beside program fresh.0 place hole there.opened use_of rest h.count state run last Locks there.stands fresh.1 there.evaluating refl
      pure h.steps in
      record { found = h.found; is = h.is; free = h.free; count = h.count; later = after.0; leads = after.1; still = after.2 }

  wrong : FailsBeside (scene_of program state) state.world Locks run → GoesWrong (machine_of program) state
  wrong h =
      let fresh = fresh_names state.world.memory in
      wrong_beside program fresh.0 place hole there.opened use_of rest h.count state run h.last Locks there.stands fresh.1 there.evaluating refl pure
      h.steps h.cause h.place h.fails

  -- The tree is evaluated in one go, or the program can go wrong.
  pub evaluated_at_once : GoesWrong (machine_of program) state ⊎ Evaluated program place hole use_of rest state run
  evaluated_at_once = by_either (settles (scene_of program state) state.world Locks run pure)
    where
      by_either : ComesTo (scene_of program state) state.world Locks run ⊎ FailsBeside (scene_of program state) state.world Locks run
          → GoesWrong (machine_of program) state ⊎ Evaluated program place hole use_of rest state run
      by_either (inl h) = inr (evaluated h)
      by_either (inr h) = inl (wrong h)

  -- It is evaluated where it comes to something and reads nothing that is locked,
  pub evaluated_free : (found : Computed) → computed (scene_of program state) state.world run ≡ Some found
      → ((at : At) → IsAmong at found.reads → overlaps_any at Locks ≡ false) → Evaluated program place hole use_of rest state run
  evaluated_free found e free = by_either (settles (scene_of program state) state.world Locks run pure)
    where
      by_either : ComesTo (scene_of program state) state.world Locks run ⊎ FailsBeside (scene_of program state) state.world Locks run
          → Evaluated program place hole use_of rest state run
      by_either (inl h) = evaluated h
      by_either (inr h) =
          let meets = undefined_meets (scene_of program state) state.world Locks run pure h found e in
          absurd (true≢false (sym meets.2 ∙ free meets.0 meets.1))

  -- and else the program can go wrong.
  pub wrong_met : (o : Option Computed) → computed (scene_of program state) state.world run ≡ o → Meets Locks o → GoesWrong (machine_of program) state
  wrong_met None e meets = wrong (hopeless (scene_of program state) state.world Locks run pure e)
  wrong_met (Some found) e meets =
      wrong (locked_out (scene_of program state) state.world Locks run pure found e meets.0 meets.1 meets.2)
