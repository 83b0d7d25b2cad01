-- A relation between states of two programs of which one reads an added const object, which each step keeps: the old program needs no such object.
use Rattle.std.specs.Prelude.{◌≡◌, refl, ◌⊎◌, ℕ, suc, zero, ◌+◌, ◌*◌, ◌≤◌}
use Rattle.std.proofs.Common.{arith, ap, sym, ◌∙◌, subst, inl, inr}
use Rattle.dm_token.specs.declared.place.Place.{Place}
use Rattle.dm_meaning.specs.declared.cause.Cause.{Cause}
use Rattle.dm_meaning.specs.Machines.{undefined, Goes}
use Rattle.dm_meaning.specs.Simulation.{GoesWrong, Meets}
use Rattle.dm_meaning.specs.Memory.{Memory}
use Rattle.dm_meaning.specs.Programs.{Program}
use Rattle.dm_meaning.specs.States.{State}
use Rattle.dm_meaning.specs.Statements.{unfolded}
use Rattle.dm_meaning.specs.Steps.{Step}
use Rattle.dm_meaning.specs.Units.{machine_of}
use Rattle.dm_meaning.specs.Extending.{HasAll}
use Rattle.dm_meaning.specs.MoreObjects.{IsSettled, IsSpare, with_memory, Spared}
use Rattle.dm_meaning.proofs.SpareStateLemmas.{unfolded_settled, spared_steps}
use Rattle.dm_rewrite.specs.NamedConstants.{Named, new_of, IsNaming, held}
use Rattle.dm_rewrite.proofs.NamedSizeLemmas.{limit, tasks_left, tasks_few}
use Rattle.dm_rewrite.proofs.NamedStateLemmas.{StateAgrees, step_met}

pub goes_nothing : (program : Program) (t : State) → Goes (machine_of program) 0 t t
unfolding Goes
goes_nothing program t = refl

wrong_later : (program : Program) (s t : State) → Step program s t → GoesWrong (machine_of program) t → GoesWrong (machine_of program) s
unfolding Goes
wrong_later program s t step (n, u, goes, cause, place, e) = (suc n, u, (t, step, goes), cause, place, e)

-- where a run goes wrong beside more objects, it goes wrong without them
wrong_without : (n : ℕ) (program : Program) (more : Memory) (state u : State) → IsSettled state → HasAll more state.world.memory → Goes (machine_of program) n (with_memory state more) u
    → (cause : Cause) (place : Place) → u.standing ≡ undefined cause place → GoesWrong (machine_of program) state
unfolding Goes
wrong_without zero program more state u settled has same cause place e = (0, state, refl, cause, place, ap (λ (s : State). s.standing) same ∙ e)
wrong_without (suc n) program more state u settled has (v, step, goes) cause place e =
    by_step (spared_steps program state v more settled has step) (λ next after s h f. wrong_without n program after next u s h f cause place e)
  where
    by_step : GoesWrong (machine_of program) state ⊎ Spared program state v more
        → ((next : State) (after : Memory) → IsSettled next → HasAll after next.world.memory → Goes (machine_of program) n (with_memory next after) u → GoesWrong (machine_of program) next)
        → GoesWrong (machine_of program) state
    by_step (inl wrong) later = wrong
    by_step (inr spared) later =
        wrong_later program state spared.next spared.step
        (later spared.next spared.after spared.settled spared.grown.has (subst (λ s. Goes (machine_of program) n s u) spared.is goes))

-- steps beside the added object are steps without it, and leave it as it is
pub record Went (change : Named) (number n : ℕ) (state u : State) : Type 0 where
  pub next : State
  pub after : Memory
  pub goes : Goes (machine_of change.old) n state next
  pub is : u ≡ with_memory next after
  pub settled : IsSettled next
  pub has : HasAll after next.world.memory
  pub spare : IsSpare after next.world.memory number (held change)

first_went : (change : Named) (number n : ℕ) (state next u : State) → Step change.old state next → GoesWrong (machine_of change.old) next ⊎ Went change number n next u
    → GoesWrong (machine_of change.old) state ⊎ Went change number (suc n) state u
unfolding Goes
first_went change number n state next u step (inl wrong) = inl (wrong_later change.old state next step wrong)
first_went change number n state next u step (inr h) =
    inr (record { next = h.next; after = h.after; goes = (next, step, h.goes); is = h.is; settled = h.settled; has = h.has; spare = h.spare })

goes_without : (change : Named) (number n : ℕ) (more : Memory) (state u : State) → IsSettled state → HasAll more state.world.memory → IsSpare more state.world.memory number (held change)
    → Goes (machine_of change.old) n (with_memory state more) u → GoesWrong (machine_of change.old) state ⊎ Went change number n state u
unfolding Goes
goes_without change number zero more state u settled has spare same =
    inr (record { next = state; after = more; goes = refl; is = sym same; settled = settled; has = has; spare = spare })
goes_without change number (suc n) more state u settled has spare (v, step, goes) =
    by_step (spared_steps change.old state v more settled has step) (λ next after s h k f. goes_without change number n after next u s h k f)
  where
    by_step : GoesWrong (machine_of change.old) state ⊎ Spared change.old state v more
        → ((next : State) (after : Memory) → IsSettled next → HasAll after next.world.memory → IsSpare after next.world.memory number (held change)
        → Goes (machine_of change.old) n (with_memory next after) u → GoesWrong (machine_of change.old) next ⊎ Went change number n next u)
        → GoesWrong (machine_of change.old) state ⊎ Went change number (suc n) state u
    by_step (inl wrong) later = inl wrong
    by_step (inr spared) later =
        first_went change number n state spared.next u spared.step
        (later spared.next spared.after spared.settled spared.grown.has (spared.grown.spare number (held change) spare)
        (subst (λ s. Goes (machine_of change.old) n s u) spared.is goes))

-- the old program stands at a state without the added object
pub record Relation (change : Named) (w : ℕ) (state other : State) : Type 0 where
  pub number : ℕ
  pub more : Memory
  pub related : StateAgrees change number state (with_memory other more)
  pub enough : tasks_left (unfolded state.frame.tasks) ≤ w
  pub settled : IsSettled other
  pub has : HasAll more other.world.memory
  pub spare : IsSpare more other.world.memory number (held change)

module _ (change : Named) (naming : IsNaming change) where
  abbrev pub Outcome : ℕ → State → State → Type 0
  Outcome w s' t = GoesWrong (machine_of change.old) t ⊎ Meets (machine_of (new_of change)) (machine_of change.old) (Relation change) (limit change) w s' t

  enough_risen : (m n w : ℕ) → m + 1 ≤ w + (1 + m) * (suc n)
  enough_risen m n w = grind arith

  met : (w : ℕ) (s' t : State) (number : ℕ) (more : Memory) → IsSettled t → HasAll more t.world.memory → IsSpare more t.world.memory number (held change)
      → GoesWrong (machine_of change.old) (with_memory t more)
      ⊎ (((n : ℕ) × (last : State) × Goes (machine_of change.old) (suc n) (with_memory t more) last × StateAgrees change number s' last)
      ⊎ ((tasks_left (unfolded s'.frame.tasks) + 1 ≤ w) × StateAgrees change number s' (with_memory t more)))
      → Outcome w s' t
  met w s' t number more settled has spare (inl (n, u, goes, cause, place, e)) = inl (wrong_without n change.old more t u settled has goes cause place e)
  met w s' t number more settled has spare (inr (inl (n, last, goes, agrees))) = by_steps (goes_without change number (suc n) more t last settled has spare goes)
    where
      by_steps : GoesWrong (machine_of change.old) t ⊎ Went change number (suc n) t last → Outcome w s' t
      by_steps (inl wrong) = inl wrong
      by_steps (inr h) =
          inr (
            suc n,
            limit change,
            h.next,
            h.goes,
            enough_risen (limit change) n w,
            record {
              number = number;
              more = h.after;
              related = subst (StateAgrees change number s') h.is agrees;
              enough = tasks_few change number _ _ agrees.tasks;
              settled = h.settled;
              has = h.has;
              spare = h.spare;
            },
          )
  met w s' t number more settled has spare (inr (inr (less, agrees))) =
      inr (
        0,
        tasks_left (unfolded s'.frame.tasks),
        t,
        goes_nothing change.old t,
        omega (arith, less),
        record { number = number; more = more; related = agrees; enough = omega arith; settled = settled; has = has; spare = spare },
      )

  pub steps_met : (w : ℕ) (s s' t : State) → Relation change w s t → Step (new_of change) s s' → Outcome w s' t
  steps_met w s s' t h step =
      met w s' t h.number h.more h.settled h.has h.spare
      (step_met change h.number naming w s s' (with_memory t h.more) h.related h.enough h.spare.0 t.world.memory h.spare.1
      (unfolded_settled t.world.memory t.frame.tasks h.settled.frame.1) step)
