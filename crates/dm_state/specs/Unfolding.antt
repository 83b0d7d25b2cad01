-- What is left to do once a loop has gone on without a step.
--     left_of table next running      a thing that is taken out comes first, else the full expression that is under evaluation
--     LeftFits table next running      one of them is there, it fits, and so does the state
use Rattle.std.specs.Prelude.{◌≡◌, List, ◌∷◌, length, Option, Some, None, IsSome}
use Rattle.dm_type.specs.Tables.{Table}
use Rattle.dm_meaning.specs.States.{Task}
use Rattle.dm_frame.specs.declared.next.Next.{Next}
use Rattle.dm_frame.specs.Frames.{tasks_of, FrameFits}
use Rattle.dm_frame.specs.Nexts.{next_task, NextFits}
use Rattle.dm_state.specs.declared.running.Running.{Running}
use Rattle.dm_state.specs.Fits.{FullFits}
use Rattle.dm_state.specs.Views.{tasks_with}

abbrev pub left_of : Table → Option Next → Running → List Task
left_of table None running = tasks_with table running.full running.frame
left_of table (Some next) running = next_task table running.frame.objects next ∷ tasks_of table running.frame

abbrev pub LeftFits : Table → Option Next → Running → Type 0
LeftFits table None running = IsSome running.full × FullFits table running.full × FrameFits table running.frame
LeftFits table (Some next) running = (running.full ≡ None) × NextFits table (length running.frame.objects) (Some next) running.frame.tasks
