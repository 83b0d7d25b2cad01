-- So far there are so many copies of the value.
use Rattle.std.proofs.Common.{◌≡◌, map, replicate}
use Rattle.dm_value.specs.Views.{view_of_value}
use Rattle.dm_first_value.proofs.filled.repeated.Given as goal

abbrev pub invariant-loop : goal.invariant-loop
invariant-loop l = (map view_of_value l.all.items ≡ replicate l.counter (view_of_value l.fn.value)) × (view_of_value l.value ≡ view_of_value l.fn.value)
