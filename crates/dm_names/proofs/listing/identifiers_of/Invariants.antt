-- Those so far and those of the rest are those of all.
use Rattle.std.proofs.Common.{◌≡◌, ◌++◌, drop}
use Rattle.dm_names.specs.Meanings as meanings
use Rattle.dm_names.proofs.listing.identifiers_of.Given as goal

abbrev pub invariant-loop-shown : goal.invariant-loop-shown
invariant-loop-shown l = l.identifiers ++ meanings.identifiers_in (drop l.shown-index l.all) ≡ meanings.identifiers_in l.all
