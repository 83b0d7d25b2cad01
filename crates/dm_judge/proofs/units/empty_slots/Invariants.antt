-- So many places are empty.
use Rattle.std.proofs.Common.{◌≡◌, None, replicate}
use Rattle.dm_judge.proofs.units.empty_slots.Given as goal

abbrev pub invariant-loop : goal.invariant-loop
invariant-loop g l = l.made.items ≡ replicate l.counter None
