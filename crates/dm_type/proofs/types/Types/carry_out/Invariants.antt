-- What the steps that are left make of the types made is what all steps make.
use Rattle.std.proofs.Common.{◌≡◌, [], All, length}
use Rattle.dm_type.specs.Tables.{IsId, Extends, AreDistinct}
use Rattle.dm_type.specs.Composing.{IsOver, stacked, carried_out}
use Rattle.dm_type.proofs.types.Types.carry_out.Given as goal

abbrev pub invariant-loop-step : goal.invariant-loop-step
invariant-loop-step l =
    (carried_out l.fn.self l.steps.items (stacked l.self l.made.items) ≡ carried_out l.fn.self l.fn.steps.items [])
    × All (IsId l.self) l.made.items × All (IsOver l.fn.self) l.steps.items × Extends l.fn.self l.self × AreDistinct l.self

abbrev pub decreases-loop-step : goal.decreases-loop-step
decreases-loop-step l = length l.steps.items
