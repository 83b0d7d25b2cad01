-- What comes next in a run.
--     IsDue table tasks due before after      it was taken out, where these tasks were left to do
--     chosen_step program choice state tasks      the step of a number, where these tasks are left to do
--     TakesStep tasks      no loop goes on first
use Rattle.std.specs.Prelude.{◌≡◌, ℕ, List, [], ◌∷◌, length, Some, None}
use Rattle.dm_type.specs.Tables.{Table}
use Rattle.dm_meaning.specs.Choices.{chosen, in_order}
use Rattle.dm_meaning.specs.Programs.{Program}
use Rattle.dm_meaning.specs.States.{State, Task, again, tests}
use Rattle.dm_meaning.specs.Statements.{unfolded}
use Rattle.dm_meaning.specs.Steps.{task_steps}
use Rattle.dm_frame.specs.Frames.{tasks_of, FrameFits}
use Rattle.dm_frame.specs.Nexts.{next_task, NextFits}
use Rattle.dm_state.specs.declared.full.Full.TheVariants.{Goes}
use Rattle.dm_state.specs.declared.running.Running.{Running}
use Rattle.dm_state.specs.Fits.{OngoingFits}
use Rattle.dm_state.specs.Views.{view_of_full}
use Rattle.dm_exec.specs.declared.due.Due.{Due}
use Rattle.dm_exec.specs.declared.due.Due.TheVariants as due

-- what is left to do, this first
abbrev pub due_tasks : Table → Due → Running → List Task
due_tasks table (due.Evaluates ongoing) running = view_of_full table (Goes ongoing) ∷ tasks_of table running.frame
due_tasks table (due.Takes next) running = next_task table running.frame.objects next ∷ tasks_of table running.frame
due_tasks table due.Closes running = []

abbrev pub DueFits : Table → Due → Running → Type 0
DueFits table (due.Evaluates ongoing) running = OngoingFits table ongoing × FrameFits table running.frame
DueFits table (due.Takes next) running = NextFits table (length running.frame.objects) (Some next) running.frame.tasks
DueFits table due.Closes running = (tasks_of table running.frame ≡ []) × FrameFits table running.frame

-- Loops have gone on, no full expression is under evaluation any more, and nothing else is changed.
pub record IsDue (table : Table) (tasks : List Task) (one : Due) (before after : Running) : Type 0 where
  pub function : after.frame.function ≡ before.frame.function
  pub objects : after.frame.objects ≡ before.frame.objects
  pub callers : after.callers ≡ before.callers
  pub statics : after.statics ≡ before.statics
  pub blocks : after.blocks ≡ before.blocks
  pub streams : after.streams ≡ before.streams
  pub none : after.full ≡ None
  pub left : unfolded tasks ≡ due_tasks table one after
  pub fits : DueFits table one after

unfoldable pub chosen_step : Program → ℕ → State → List Task → State
chosen_step program choice state tasks = chosen state choice (task_steps program (in_order state.world.memory) state tasks)

abbrev pub TakesStep : List Task → Type 0
TakesStep (again objects loop ∷ rest) = ⊥
TakesStep (tests objects loop ∷ rest) = ⊥
TakesStep tasks = Unit {0}
