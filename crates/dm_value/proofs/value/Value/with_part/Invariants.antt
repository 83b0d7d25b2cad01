-- The new value stays as it is, and what was taken apart, with the part where it was taken out changed as the rest of the path says, is the whole changed.
use Rattle.std.proofs.Common.{◌≡◌, length, map}
use Rattle.dm_meaning.specs.Values.{with_part}
use Rattle.dm_value.specs.Closed.{closed}
use Rattle.dm_value.specs.Parts.{view_of_part}
use Rattle.dm_value.specs.Views.{view_of_value}
use Rattle.dm_value.proofs.value.Value.with_part.Given as goal

abbrev pub invariant-loop-first : goal.invariant-loop-first
invariant-loop-first l =
    (closed l.outer.items (with_part (map view_of_part l.left) (view_of_value l.fn.new) (view_of_value l.at))
    ≡ with_part (map view_of_part l.fn.steps) (view_of_value l.fn.new) (view_of_value l.fn.self))
    × (view_of_value l.new ≡ view_of_value l.fn.new)

abbrev pub decreases-loop-first : goal.decreases-loop-first
decreases-loop-first l = length l.left
