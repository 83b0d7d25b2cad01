use Rattle.std.proofs.Common.{◌≡◌, ◌++◌, map, length}
use Rattle.dm_expand.specs.Expansion.{token_of}
use Rattle.dm_expand.proofs.machine.put_all.Given as goal

abbrev pub invariant-tokens : goal.invariant-tokens
invariant-tokens l = l.put.items ++ map token_of l.left.items ≡ l.fn.put.items ++ map token_of l.fn.out.items

abbrev pub decreases-tokens : goal.decreases-tokens
decreases-tokens l = length l.left.items
