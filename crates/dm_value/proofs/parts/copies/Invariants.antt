-- So far there are copies of the values so far.
use Rattle.std.proofs.Common.{◌≡◌, map, take}
use Rattle.dm_value.specs.Views.{view_of_value}
use Rattle.dm_value.proofs.parts.copies.Given as goal

abbrev pub invariant-loop-value : goal.invariant-loop-value
invariant-loop-value l = map view_of_value l.copies.items ≡ map view_of_value (take l.value-index l.all)
