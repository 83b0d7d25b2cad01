use Rattle.std.proofs.Common.{◌≡◌, ◌++◌, length}
use Rattle.dm_expand.proofs.queue.Queue.put_before.Given as goal

abbrev pub invariant-tokens : goal.invariant-tokens
invariant-tokens l = l.tokens.items ++ l.self ≡ l.fn.tokens.items ++ l.fn.self

abbrev pub decreases-tokens : goal.decreases-tokens
decreases-tokens l = length l.tokens.items
