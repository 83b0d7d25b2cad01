-- What is left of both decides.
use Rattle.std.proofs.Common.{◌≡◌, length, map}
use Rattle.dm_meaning.specs.Values.{along}
use Rattle.dm_value.specs.Parts.{view_of_part}
use Rattle.dm_value.proofs.path.along.Given as goal

abbrev pub invariant-loop-first : goal.invariant-loop-first
invariant-loop-first l = along (map view_of_part l.left) (map view_of_part l.right) ≡ along (map view_of_part l.fn.a) (map view_of_part l.fn.b)

abbrev pub decreases-loop-first : goal.decreases-loop-first
decreases-loop-first l = length l.left
