-- What is left to close, with the value so far in place of its innermost part, is the whole.
use Rattle.std.proofs.Common.{◌≡◌, length}
use Rattle.dm_value.specs.Closed.{closed}
use Rattle.dm_value.specs.Views.{view_of_value}
use Rattle.dm_value.proofs.parts.close.Given as goal

abbrev pub invariant-loop-opened : goal.invariant-loop-opened
invariant-loop-opened l = closed l.outer.items (view_of_value l.at) ≡ closed l.fn.outer.items (view_of_value l.fn.inner)

abbrev pub decreases-loop-opened : goal.decreases-loop-opened
decreases-loop-opened l = length l.outer.items
