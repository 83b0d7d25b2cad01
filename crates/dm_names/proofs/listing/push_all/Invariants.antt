-- Those so far and the rest are all.
use Rattle.std.proofs.Common.{◌≡◌, ◌++◌, drop}
use Rattle.dm_names.proofs.listing.push_all.Given as goal

abbrev pub invariant-loop-identifier : goal.invariant-loop-identifier
invariant-loop-identifier l = l.identifiers ++ drop l.identifier-index l.more ≡ l.fn.identifiers ++ l.more
