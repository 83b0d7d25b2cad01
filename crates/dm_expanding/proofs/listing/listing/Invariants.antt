-- The text so far, and what is put behind it, are the whole.
use Rattle.std.proofs.Common.{◌≡◌, ◌++◌, drop}
use Rattle.dm_expanding.specs.Listings.{AgreesFrom, listed_behind, listing_of}
use Rattle.dm_expanding.proofs.listing.listing.Given as goal

abbrev pub invariant-loop-token : goal.invariant-loop-token
invariant-loop-token l = record {
  whole : l.text.items ++ listed_behind l.fn.expansions l.before (drop l.token-index l.others) ≡ listing_of l.fn.expansions l.fn.tokens;
  cursor : AgreesFrom l.fn.expansions l.cursor.rest.now l.cursor.least;
}
