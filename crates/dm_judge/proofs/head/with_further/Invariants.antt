use Rattle.std.proofs.Common.{◌≡◌, ◌++◌, drop}
use Rattle.dm_judge.specs.Changes as changes
use Rattle.dm_judge.proofs.head.with_further.Given as goal

abbrev pub invariant-loop-text : goal.invariant-loop-text
invariant-loop-text l = l.longer.items ++ changes.further (drop l.text-index l.texts) ≡ l.fn.bytes.items ++ changes.further l.fn.texts
