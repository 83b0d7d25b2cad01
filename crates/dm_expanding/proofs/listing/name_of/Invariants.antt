-- What was passed over is neither the number that is looked for nor one that is looked for later.
use Rattle.std.proofs.Common.{◌≡◌, length}
use Rattle.dm_expand.specs.Predefined.{name_of}
use Rattle.dm_expanding.specs.Listings.{AgreesFrom}
use Rattle.dm_expanding.proofs.listing.name_of.Given as goal

abbrev pub invariant-search : goal.invariant-search
invariant-search l = record {
  agrees : AgreesFrom l.fn.expansions l.rest l.least;
  here : name_of l.fn.instance l.rest l.fn.other ≡ name_of l.fn.instance l.fn.expansions l.fn.other;
}

abbrev pub decreases-search : goal.decreases-search
decreases-search l = length l.rest
