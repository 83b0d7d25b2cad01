-- The parameters before the next one occur.
use Rattle.std.proofs.Common.{◌≡◌, ◌-◌}
use Rattle.std.specs.List.{list_all, range_with_len}
use Rattle.dm_beside.specs.Places.{occurs}
use Rattle.dm_beside.proofs.places.has_all_parameters.Given as goal

abbrev pub invariant-loop-parameter : goal.invariant-loop-parameter
invariant-loop-parameter l = list_all (occurs l.run) (range_with_len l.parameter (l.count - l.parameter)) ≡ list_all (occurs l.run) (range_with_len 0 l.count)
