-- Those that are there and those to come are all.
use Rattle.std.proofs.Common.{◌≡◌, ◌++◌, ◌-◌}
use Rattle.dm_mentions.specs.Mentions.{undefined_from}
use Rattle.dm_mentions.proofs.events.add_undefined.Given as goal

abbrev pub invariant-loop-number : goal.invariant-loop-number
invariant-loop-number l = l.events.items ++ undefined_from l.number (l.fn.to - l.number) ≡ l.fn.events.items ++ undefined_from l.fn.from (l.fn.to - l.fn.from)
