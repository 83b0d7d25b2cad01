-- The tasks that are left stand for the same, and fit.
use Rattle.std.proofs.Common.{◌≡◌}
use Rattle.dm_frame.specs.Frames.{tasks_of, FrameFits}
use Rattle.dm_frame.specs.Nexts.{weight}
use Rattle.dm_frame.proofs.frame.Frame.next.Given as goal

abbrev pub invariant-loop-task : goal.invariant-loop-task
invariant-loop-task l =
    (l.self.objects ≡ l.fn.self.objects) × (l.self.function ≡ l.fn.self.function) × (tasks_of l.layout l.self ≡ tasks_of l.layout l.fn.self) × FrameFits l.layout l.self

abbrev pub decreases-loop-task : goal.decreases-loop-task
decreases-loop-task l = weight l.self.tasks
