-- The `)` that closes is still to come.
use Rattle.std.proofs.Common.{◌≡◌, ◌-◌, length, drop}
use Rattle.dm_parentheses.specs.Parentheses.{before_closing, index_from}
use Rattle.dm_parentheses.proofs.ends.Ends.closing_inside.Given as goal

abbrev pub invariant-ends : goal.invariant-ends
invariant-ends l = index_from l.fn.from (before_closing 0 (drop l.fn.from l.self)) ≡ index_from l.behind (before_closing 0 (drop l.behind l.self))

abbrev pub decreases-ends : goal.decreases-ends
decreases-ends l = length l.self - l.behind
