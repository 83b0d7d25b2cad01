-- What is left to write comes to the whole.
use Rattle.std.proofs.Common.{All, reverse}
use Rattle.dm_type.specs.Tables.{type_of, IsId}
use Rattle.dm_type.specs.Writing.{written, Shows, IsStep, work_left}
use Rattle.dm_type.proofs.types.Types.write.Given as goal

abbrev pub invariant-loop-step : goal.invariant-loop-step
invariant-loop-step l =
    Shows l.self l.visible (reverse l.frames.items) l.step (written l.self l.visible (type_of l.self l.fn.focus.id) l.fn.focus.qualified l.fn.focus.declarator)
    × IsStep l.self l.step × All (λ frame. IsId l.self frame.function) l.frames.items

abbrev pub decreases-loop-step : goal.decreases-loop-step
decreases-loop-step l = work_left l.self (reverse l.frames.items) l.step
