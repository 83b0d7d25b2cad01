-- What the full expression that is under evaluation names is set.
use Rattle.std.specs.Prelude.{◌≡◌, ◌⊎◌, ℕ, Bool, true, List, Some}
use Rattle.std.proofs.Common.{subst, inl, inr}
use Rattle.dm_meaning.specs.Among.{IsAmong}
use Rattle.dm_meaning.specs.Machines.{RunsTo}
use Rattle.dm_meaning.specs.Memory.{Memory}
use Rattle.dm_meaning.specs.Programs.{Program}
use Rattle.dm_meaning.specs.Operations.{Objects, object_named}
use Rattle.dm_meaning.specs.States.{Use, Task, State}
use Rattle.dm_meaning.specs.Units.{machine_of}
use Rattle.dm_sound.specs.TypedValues.{IsSet}
use Rattle.dm_sound.specs.TypedRuns.{IsTypedProgram}
use Rattle.dm_sound.specs.TypedStates.{IsTypedState}
use Rattle.dm_sound.proofs.RunningLemmas.{program_runs_typed}
use Rattle.dm_effect.specs.Scoped.{Scope}
use Rattle.dm_initialised.specs.Settled.{IsSettledProgram}
use Rattle.dm_initialised.specs.SetStates.{AreSet, Within, IsUnderWay, IsSetState, NamesAreSet, result_for}
use Rattle.dm_initialised.proofs.StatementLemmas.{Set, unfolded_set}
use Rattle.dm_initialised.proofs.BeginLemmas.{run_set}

module _ (program : Program) (needs : ℕ → Bool) (settled : IsSettledProgram needs program) where
  scope_set : (memory : Memory) (objects : Objects) (use_of : Use) (scope inner : Scope) → AreSet needs memory objects scope → Within needs objects scope (IsUnderWay use_of) inner → (d : ℕ) → needs d ≡ true → IsAmong d inner
      → ((n : ℕ) × (object_named objects d ≡ Some n) × IsSet memory n) ⊎ ((n : ℕ) × (object_named objects d ≡ Some n) × IsUnderWay use_of n)
  scope_set memory objects use_of scope inner set within d h a = by_scope (within d h a)
    where
      by_scope : IsAmong d scope ⊎ ((n : ℕ) × (object_named objects d ≡ Some n) × IsUnderWay use_of n)
          → ((n : ℕ) × (object_named objects d ≡ Some n) × IsSet memory n) ⊎ ((n : ℕ) × (object_named objects d ≡ Some n) × IsUnderWay use_of n)
      by_scope (inl b) = inl (set d h b)
      by_scope (inr x) = inr x

  names_set : (state : State) → IsTypedState program state → IsSetState program needs state → NamesAreSet program needs state
  names_set state t s place run use_of rest e =
      let f = state.frame.function in
      let here : Set program needs settled (result_for program f) state.frame.objects state.world.memory state.frame.tasks = record { scope = s.frame.scope; set = s.frame.set; waits = s.frame.tasks } in
      let there = subst (λ (tasks : List Task). Set program needs settled (result_for program f) state.frame.objects state.world.memory tasks) e
      (unfolded_set program needs settled (result_for program f) state.frame.objects state.world.memory state.frame.tasks t.frame.tasks here) in
      let stands = there.waits.0.stands in
      record {
        tree = there.waits.0.tree;
        comes = there.waits.0.comes;
        scope = stands.inner;
        settled = stands.settled.0;
        set = scope_set state.world.memory state.frame.objects use_of there.scope stands.inner there.set stands.within;
      }

  pub run_names_set : IsTypedProgram program → (input : List ℕ) (n : ℕ) (state : State) → RunsTo (machine_of program) input n state → NamesAreSet program needs state
  run_names_set sound input n state run = names_set state (program_runs_typed program sound input n state run) (run_set program sound needs settled input n state run)
