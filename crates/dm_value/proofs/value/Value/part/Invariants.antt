-- What is left of the path leads to the same part from the value that it has come to.
use Rattle.std.proofs.Common.{◌≡◌, length, map}
use Rattle.dm_meaning.specs.Values.{part_value}
use Rattle.dm_value.specs.Parts.{view_of_part}
use Rattle.dm_value.specs.Views.{view_of_value}
use Rattle.dm_value.proofs.value.Value.part.Given as goal

abbrev pub invariant-loop-first : goal.invariant-loop-first
invariant-loop-first l =
    part_value (view_of_value l.at) (map view_of_part l.left) ≡ part_value (view_of_value l.fn.self) (map view_of_part l.fn.steps)

abbrev pub decreases-loop-first : goal.decreases-loop-first
decreases-loop-first l = length l.left
