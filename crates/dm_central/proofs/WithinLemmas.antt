-- A part of a full expression that neither stores nor calls is evaluated in one go, by steps that neither call a function nor return from one.
use Rattle.std.specs.Prelude.{◌≡◌, refl, ◌⊎◌, ℕ, zero, suc, List, [], ◌∷◌, Some}
use Rattle.std.proofs.Common.{ap, sym, ◌∙◌, subst, inl, inr}
use Rattle.dm_token.specs.declared.place.Place.{Place}
use Rattle.dm_meaning.specs.Among.{IsAmong}
use Rattle.dm_meaning.specs.Expressions.{kind_of_run, moves}
use Rattle.dm_meaning.specs.Machines.{going}
use Rattle.dm_meaning.specs.Memory.{IsFresh}
use Rattle.dm_meaning.specs.Programs.{Program}
use Rattle.dm_meaning.specs.Running.{Run, done, Hole, filled_in, locks_in, IsOpen}
use Rattle.dm_meaning.specs.Simulation.{GoesWrong}
use Rattle.dm_meaning.specs.States.{Use, Task, evaluates, State}
use Rattle.dm_meaning.specs.Statements.{unfolded}
use Rattle.dm_meaning.specs.Steps.{scene_of, next}
use Rattle.dm_meaning.specs.Units.{machine_of}
use Rattle.dm_meaning.specs.Values.{At}
use Rattle.dm_rewrite.specs.Computed.{Computed, computed, IsPure}
use Rattle.dm_rewrite.specs.PureSteps.{IsAt, StandsStill}
use Rattle.dm_rewrite.proofs.ComputedLemmas.{pure_locks}
use Rattle.dm_rewrite.proofs.SettleLemmas.{went, Beside, FailsBeside, ComesTo, settles, same_locks, with_run, step_in, wrong_beside}
use Rattle.dm_central.specs.StateAgreement.{GoesWithin}

-- Steps of the program lead to a state that stands still but for the tree, in whose place its result is.
pub record EvaluatedWithin (program : Program) (place : Place) (hole : Hole) (use_of : Use) (rest : List Task) (state : State) (run : Run) : Type 0 where
  pub found : Computed
  pub is : computed (scene_of program state) state.world run ≡ Some found
  pub count : ℕ
  pub later : State
  pub leads : GoesWithin program count state later
  pub still : StandsStill place hole use_of rest state (done (kind_of_run run) found.result []) later

module _ (program : Program) (names : ℕ → ℕ) (place : Place) (hole : Hole) (opened : IsOpen hole) (use_of : Use) (rest : List Task) where
  goes_within : (n : ℕ) (state : State) (run last : Run) (locks : List At) → state.standing ≡ going → IsFresh names state.world.memory
      → unfolded state.frame.tasks ≡ evaluates place (filled_in hole run) use_of ∷ rest → locks ≡ locks_in (filled_in hole run) → IsPure run
      → Beside (scene_of program state) state.world locks n run last
      → (next_state : State) × GoesWithin program n state next_state × StandsStill place hole use_of rest state last next_state
  goes_within zero state run last locks stands fresh e same pure steps =
      (state, refl, record { tasks = state.frame.tasks; is = refl; evaluating = e ∙ ap (λ r. evaluates place (filled_in hole r) use_of ∷ rest) steps })
  goes_within (suc n) state run last locks stands fresh e same pure (middle, pure_later, k, more) =
      let there = with_run program names place hole opened use_of rest state middle in
      let one : IsAmong there (next names program state) =
      step_in program names place hole opened use_of rest state run (went state.world middle) stands e (subst (λ l. IsAmong (went state.world middle) (moves (scene_of program state) state.world l run)) same k) in
      let later =
      goes_within n there middle last locks stands fresh refl
      (same ∙ same_locks hole run middle (pure_locks run pure ∙ sym (pure_locks middle pure_later))) pure_later more in
      (later.0, (there, (names, fresh, one), refl, later.1), record { tasks = later.2.tasks; is = later.2.is; evaluating = later.2.evaluating })

pub evaluated_within : (program : Program) (place : Place) (hole : Hole) (use_of : Use) (rest : List Task) (state : State) (run : Run) → (names : ℕ → ℕ) → IsFresh names state.world.memory → IsAt place hole use_of rest state run → IsPure run
    → GoesWrong (machine_of program) state ⊎ EvaluatedWithin program place hole use_of rest state run
evaluated_within program place hole use_of rest state run names fresh there pure = by_either (settles (scene_of program state) state.world (locks_in (filled_in hole run)) run pure)
  where
    by_either : ComesTo (scene_of program state) state.world (locks_in (filled_in hole run)) run ⊎ FailsBeside (scene_of program state) state.world (locks_in (filled_in hole run)) run
        → GoesWrong (machine_of program) state ⊎ EvaluatedWithin program place hole use_of rest state run
    by_either (inl h) =
        let last = done (kind_of_run run) h.found.result [] in
        let after = goes_within program names place hole there.opened use_of rest h.count state run last (locks_in (filled_in hole run)) there.stands fresh there.evaluating refl pure h.steps in
        inr (record { found = h.found; is = h.is; count = h.count; later = after.0; leads = after.1; still = after.2 })
    by_either (inr h) =
        inl (wrong_beside program names place hole there.opened use_of rest h.count state run h.last (locks_in (filled_in hole run)) there.stands fresh there.evaluating refl pure h.steps h.cause h.place h.fails)
