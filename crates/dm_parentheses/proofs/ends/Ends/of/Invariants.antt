-- The tokens that are left, and behind them those of the table.
use Rattle.std.proofs.Common.{◌≡◌, ◌++◌, length}
use Rattle.dm_parentheses.proofs.ends.Ends.of.Given as goal

abbrev pub invariant-signs : goal.invariant-signs
invariant-signs l = l.fn.signs.items ≡ l.left.items ++ l.ends

abbrev pub decreases-signs : goal.decreases-signs
decreases-signs l = length l.left.items
