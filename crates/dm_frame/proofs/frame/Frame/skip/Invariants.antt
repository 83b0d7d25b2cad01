-- What `continue` does to the tasks that are left is what it does to all.
use Rattle.std.proofs.Common.{◌≡◌, length}
use Rattle.dm_type.specs.Tables.{Table}
use Rattle.dm_memory.specs.Blocks.{view_of_blocks}
use Rattle.dm_meaning.specs.Statements.{after_continue}
use Rattle.dm_frame.specs.Frames.{tasks_of, FrameFits}
use Rattle.dm_frame.proofs.frame.Frame.skip.Given as goal

abbrev pub invariant-loop-task : goal.invariant-loop-task
invariant-loop-task l =
    (l.self.objects ≡ l.fn.self.objects) × (l.self.function ≡ l.fn.self.function) × (l.blocks ≡ l.fn.blocks) × ((table : Table) → FrameFits table l.fn.self → FrameFits table l.self)
    × ((table : Table) → after_continue l.self.objects (view_of_blocks table l.blocks) (tasks_of table l.self) ≡ after_continue l.fn.self.objects (view_of_blocks table l.fn.blocks) (tasks_of table l.fn.self))

abbrev pub decreases-loop-task : goal.decreases-loop-task
decreases-loop-task l = length l.self.tasks
