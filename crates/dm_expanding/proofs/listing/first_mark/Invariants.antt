-- The walk keeps the outermost mark.
use Rattle.std.proofs.Common.{◌≡◌, length}
use Rattle.std.specs.Prelude.{slice_get}
use Rattle.dm_expanding.proofs.listing.first_mark.Given as goal

abbrev pub invariant-walk : goal.invariant-walk
invariant-walk l = slice_get l.inner 0 ≡ slice_get l.fn.trail 0

abbrev pub decreases-walk : goal.decreases-walk
decreases-walk l = length l.inner
