-- What is kept of the external declarations up to here.
use Rattle.std.proofs.Common.{take}
use Rattle.dm_rules.proofs.PlaceLemmas.{Kept}
use Rattle.dm_rules.proofs.places.ends_before.Given as goal

abbrev pub invariant-loop-number : goal.invariant-loop-number
invariant-loop-number l = Kept (take l.number l.fn.externals) l.before.items
