-- The table is that of the external declarations so far, and the token is behind all of them.
use Rattle.std.proofs.Common.{◌≡◌, take}
use Rattle.dm_effect.specs.Tables.{end_of, AreSince}
use Rattle.dm_effect.proofs.quieting.QuietFunctions.of.Given as goal

abbrev pub invariant-loop-external : goal.invariant-loop-external
invariant-loop-external l = (l.end ≡ end_of (take l.external-index l.externals)) × AreSince (take l.external-index l.externals) l.since.items
