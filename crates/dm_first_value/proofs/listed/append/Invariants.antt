-- Copies of the values so far stand behind those that were there.
use Rattle.std.proofs.Common.{◌≡◌, ◌++◌, map, take}
use Rattle.dm_value.specs.Views.{view_of_value}
use Rattle.dm_first_value.proofs.listed.append.Given as goal

abbrev pub invariant-loop-value : goal.invariant-loop-value
invariant-loop-value l = map view_of_value l.all.items ≡ map view_of_value l.fn.all.items ++ map view_of_value (take l.value-index l.more)
