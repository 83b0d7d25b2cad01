-- Full expressions that go on beside the rest of a state.
use Rattle.std.proofs.Common.{◌≡◌, ℕ, Bool, true, false, ◌∷◌, List, Option, Some, None, refl, ap, sym, subst}
use Rattle.dm_type.specs.Tables.{Table}
use Rattle.dm_meaning.specs.Choices.{chosen, in_order}
use Rattle.dm_meaning.specs.Programs.{Program}
use Rattle.dm_meaning.specs.States as states
use Rattle.dm_meaning.specs.States.{Task}
use Rattle.dm_meaning.specs.Steps.{expression_steps}
use Rattle.dm_memory.specs.Blocks.{view_of_blocks}
use Rattle.dm_frame.specs.Frames.{tasks_of}
use Rattle.dm_frame.specs.Tasks.{view_of_use}
use Rattle.dm_state.specs.declared.full.Full.{Full}
use Rattle.dm_state.specs.declared.full.Full.TheVariants.{Goes}
use Rattle.dm_state.specs.declared.full.Ongoing.{Ongoing}
use Rattle.dm_state.specs.declared.running.Running.{Running}
use Rattle.dm_state.specs.Fits.{FullFits, OngoingFits, RunningFits}
use Rattle.dm_state.specs.declared.turn.Turn.{Turn}
use Rattle.dm_state.specs.Turns.{state_with, IsAfter, IsLeft}
use Rattle.dm_state.specs.Views.{run_of, tasks_with, view_of_full, view_of_running}
use Rattle.dm_move.specs.declared.going.Progress.{Progress}
use Rattle.dm_move.specs.declared.going.Progress.TheVariants as progress
use Rattle.dm_move.specs.Progressing.{with_full, IsProgress}
use Rattle.dm_exec.specs.declared.due.Due.TheVariants as comes
use Rattle.dm_exec.specs.declared.state.Going.{Going}
use Rattle.dm_exec.specs.Due.{chosen_step}
use Rattle.dm_exec.specs.Runs.{next_state}
use Rattle.dm_exec.specs.Shown.{full_in, running_in, HasLeft}
use Rattle.dm_exec.proofs.DueLemmas.{due-stepped, full-due}

-- where none does, what is left is all
pub none-beside : (going : Going) → going.goes ≡ false → going.running ≡ running_in going
none-beside going is = ap (λ (goes : Bool). record going.running { full = full_in goes going.ongoing going.running.full }) (sym is)

pub left-alone : (table : Table) (turn : Turn) (going : Going) (next : states.State) → going.goes ≡ false → IsLeft table turn going.running next → HasLeft table turn going next
left-alone table turn going next none left = (subst (λ (running : Running). IsLeft table turn running next) (none-beside going none) left, λ goes. absurd (cc))

-- where one does, it is under evaluation
pub one-beside : (going : Going) → going.goes ≡ true → (running_in going).full ≡ Some (Goes going.ongoing)
one-beside going is = ap (λ (goes : Bool). full_in goes going.ongoing going.running.full) is

module _ (table : Table) (going : Going) (goes : going.goes ≡ true) (none : going.running.full ≡ None) (fits : RunningFits table (running_in going)) where
  pub ongoing-fits : OngoingFits table going.ongoing
  ongoing-fits = subst (FullFits table) (one-beside going goes) fits.full

  pub rest-fits : RunningFits table going.running
  rest-fits = record { frame = fits.frame; full = subst (FullFits table) (sym none) tt; callers = fits.callers; blocks = fits.blocks }

  -- the step is that of the expression
  pub beside-stepped : (program : Program) (choice : ℕ) → next_state program choice (view_of_running table (running_in going))
      ≡ chosen_step program choice (state_with table (tasks_with table (running_in going).full going.running.frame) going.running)
      (view_of_full table (Goes going.ongoing) ∷ tasks_of table going.running.frame)
  beside-stepped program choice =
      due-stepped table program choice (comes.Evaluates going.ongoing) (running_in going) going.running
      (full-due table (Goes going.ongoing) going.ongoing (running_in going) going.running (one-beside going goes) refl ongoing-fits fits.frame refl refl refl refl refl none)

-- ---- the step of an expression

abbrev steps-to : Table → Program → ℕ → Running → List Task → Ongoing → states.State
steps-to table program choice old tasks ongoing =
    chosen (state_with table tasks old) choice (expression_steps program (in_order (view_of_blocks table old.blocks)) (state_with table tasks old) (tasks_of table old.frame)
    ongoing.place (view_of_use table ongoing.use_of) (run_of table ongoing.expression))

pub goes-on : (table : Table) (program : Program) (choice : ℕ) (old new : Running) (tasks : List Task) (ongoing next : Ongoing) (did : Progress) → did ≡ progress.GoesOn
    → IsProgress table did new next (chosen (state_with table tasks old) choice (expression_steps program (in_order (view_of_blocks table old.blocks)) (state_with table tasks old) (tasks_of table old.frame)
    ongoing.place (view_of_use table ongoing.use_of) (run_of table ongoing.expression)))
    → (new.full ≡ None) × IsAfter table (with_full new next) (chosen_step program choice (state_with table tasks old) (view_of_full table (Goes ongoing) ∷ tasks_of table old.frame))
unfolding chosen_step
goes-on table program choice old new tasks ongoing next did is left =
    subst (λ (did : Progress). IsProgress table did new next (steps-to table program choice old tasks ongoing)) is left

pub leaves : (table : Table) (program : Program) (choice : ℕ) (old new : Running) (tasks : List Task) (ongoing next : Ongoing) (did : Progress) (turn : Turn) → did ≡ progress.Left turn
    → IsProgress table did new next (chosen (state_with table tasks old) choice (expression_steps program (in_order (view_of_blocks table old.blocks)) (state_with table tasks old) (tasks_of table old.frame)
    ongoing.place (view_of_use table ongoing.use_of) (run_of table ongoing.expression)))
    → IsLeft table turn new (chosen_step program choice (state_with table tasks old) (view_of_full table (Goes ongoing) ∷ tasks_of table old.frame))
unfolding chosen_step
leaves table program choice old new tasks ongoing next did turn is left =
    subst (λ (did : Progress). IsProgress table did new next (steps-to table program choice old tasks ongoing)) is left
