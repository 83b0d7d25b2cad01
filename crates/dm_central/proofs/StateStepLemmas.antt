-- Each step of the new program is met, in each situation that the relation tells apart.
use Rattle.std.specs.Prelude.{◌≡◌, refl, ℕ, List, ◌∷◌}
use Rattle.std.proofs.Common.{sym, subst, inl, inr}
use Rattle.dm_meaning.specs.Called.{Called, new_of}
use Rattle.dm_meaning.specs.Memory.{Memory}
use Rattle.dm_meaning.specs.MoreObjects.{TasksSettled}
use Rattle.dm_meaning.specs.Operations.{World}
use Rattle.dm_meaning.specs.States.{Caller, State}
use Rattle.dm_meaning.specs.Statements.{unfolded}
use Rattle.dm_meaning.specs.Steps.{Step}
use Rattle.dm_meaning.proofs.EntryLemmas.{objects_in, AllSpare, spare_entry}
use Rattle.dm_meaning.proofs.MatchLemmas.{unlocked}
use Rattle.dm_meaning.proofs.PassRunLemmas.{Entry as Stored}
use Rattle.dm_meaning.proofs.PassStateLemmas.{Spare, flat, from_steps}
use Rattle.dm_meaning.proofs.RunLemmas.{renamed_objects}
use Rattle.dm_central.specs.Bodies.{Known, CallsInPlace}
use Rattle.dm_central.specs.StateAgreement.{InsideAgrees, AsideAgrees, Related, Met, IsSteady}
use Rattle.dm_central.proofs.AsideLemmas.{aside_met}
use Rattle.dm_central.proofs.InsideLemmas.{phase_met}
use Rattle.dm_central.proofs.OutsideLemmas.{built, is_built, tasks_met}

-- the state of the new program in the added function, by that of the old one
abbrev added_state : Called → List Stored → State → Caller → List Caller → State → State
added_state change first state caller others other = record {
  standing = other.standing;
  frame = record { function = state.frame.function; objects = objects_in first; tasks = state.frame.tasks };
  callers = caller ∷ others;
  statics = renamed_objects change.rename other.statics;
  world = other.world;
}

module _ (change : Called) (known : Known) (calling : CallsInPlace change known) where
  inside_is : (w : ℕ) (first : List Stored) (spare : Spare) (starts : List World) (state other : State) (h : InsideAgrees change known w first spare starts state other)
      → state ≡ added_state change first state h.caller h.others other
  inside_is w first spare starts state other h = λ i. record {
    standing = h.standing i;
    frame = record { function = state.frame.function; objects = h.objects i; tasks = state.frame.tasks };
    callers = h.callers i;
    statics = h.statics i;
    world = h.world i;
  }

  aside_is : (w : ℕ) (first : List Stored) (spare : Spare) (starts : List World) (state other : State) (h : AsideAgrees change known w first spare starts state other)
      → state ≡ added_state change first state h.caller h.others other
  aside_is w first spare starts state other h = λ i. record {
    standing = h.standing i;
    frame = record { function = state.frame.function; objects = h.objects i; tasks = state.frame.tasks };
    callers = h.callers i;
    statics = h.statics i;
    world = h.world i;
  }

  inside_met : (w : ℕ) (first : List Stored) (rest : Spare) (starts : List World) (state next_state other : State) → InsideAgrees change known w first rest starts state other
      → (memory : Memory) → AllSpare change other.world.memory memory (flat (first ∷ rest)) → TasksSettled memory (unfolded other.frame.tasks) → IsSteady change known starts other → Step (new_of change) state next_state
      → Met change known w (first ∷ rest) starts other next_state
  inside_met w first rest starts state next_state other h memory spares settled steady step =
      let moved_step = subst (λ s. Step (new_of change) s next_state) (inside_is w first rest starts state other h) step in
      let from = from_steps other.standing _ next_state moved_step.2 in
      let made = (subst (TasksSettled memory) h.waits.evaluating settled).0.0 in
      let spare_of = spare_entry change other.world.memory memory first (flat rest) spares in
      phase_met change known calling moved_step.0 other moved_step.1 from.0 state.frame.function first rest starts steady h.caller h.others h.run h.hole h.opened h.waits h.origin h.missing h.below h.effects h.since h.less h.holes h.entries h.entered h.held
      h.left w h.enough (λ entry k. (spare_of entry k).0) (λ entry k locks among. unlocked memory entry.stored (spare_of entry k).1 locks (λ lock l. made lock (among lock l))) state.frame.tasks h.phase next_state from.1

  aside_step : (w : ℕ) (first : List Stored) (rest : Spare) (starts : List World) (state next_state other : State) → AsideAgrees change known w first rest starts state other
      → (memory : Memory) → AllSpare change other.world.memory memory (flat (first ∷ rest)) → IsSteady change known starts other → Step (new_of change) state next_state
      → Met change known w (first ∷ rest) starts other next_state
  aside_step w first rest starts state next_state other h memory spares steady step =
      let moved_step = subst (λ s. Step (new_of change) s next_state) (aside_is w first rest starts state other h) step in
      let from = from_steps other.standing _ next_state moved_step.2 in
      let spare_of = spare_entry change other.world.memory memory first (flat rest) spares in
      aside_met change known calling moved_step.0 other state.frame.function first rest starts steady h.caller h.others h.whole h.waits h.value h.origin h.missing h.below h.since h.resumes h.entries h.entered h.held h.left w h.enough
      (λ entry k. (spare_of entry k).0) h.run (record { pure = h.pure; closed = h.closed; comes = h.comes }) state.frame.tasks h.phase next_state from.1

  -- each step is met
  pub step_met : (w : ℕ) (spare : Spare) (starts : List World) (state next_state other : State) → Related change known w spare starts state other
      → (memory : Memory) → AllSpare change other.world.memory memory (flat spare) → TasksSettled memory (unfolded other.frame.tasks) → IsSteady change known starts other → Step (new_of change) state next_state
      → Met change known w spare starts other next_state
  step_met w spare starts state next_state other (inl (enough, h)) memory spares settled steady step =
      let moved_step : Step (new_of change) (built change other state.frame.tasks state.callers) next_state =
      subst (λ s. Step (new_of change) s next_state) (is_built change known spare starts state other h) step in
      let from = from_steps other.standing _ next_state moved_step.2 in
      tasks_met change known calling moved_step.0 other moved_step.1 from.0 spare starts steady state.frame.tasks h.tasks state.callers h.callers w (unfolded state.frame.tasks) (unfolded other.frame.tasks) h.tasks enough refl next_state from.1
  step_met w spare starts state next_state other (inr (first, rest, is, inl h)) memory spares settled steady step =
      subst (λ s. Met change known w s starts other next_state) (sym is) (inside_met w first rest starts state next_state other h memory (subst (λ s. AllSpare change other.world.memory memory (flat s)) is spares) settled steady step)
  step_met w spare starts state next_state other (inr (first, rest, is, inr h)) memory spares settled steady step =
      subst (λ s. Met change known w s starts other next_state) (sym is) (aside_step w first rest starts state next_state other h memory (subst (λ s. AllSpare change other.world.memory memory (flat s)) is spares) steady step)
