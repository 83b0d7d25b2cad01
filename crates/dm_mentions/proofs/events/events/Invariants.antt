-- The events that are found, and those to come, are all.
use Rattle.std.proofs.Common.{◌≡◌, ◌++◌, ◌≤◌, drop, length}
use Rattle.dm_mentions.specs.Mentions as mentions
use Rattle.dm_mentions.specs.Mentions.{events_from}
use Rattle.dm_mentions.proofs.events.events.Given as goal

abbrev pub invariant-loop-number : goal.invariant-loop-number
invariant-loop-number l =
    (l.undefined ≤ length l.fn.pp.read_before_undefined)
    × (l.found.items ++ events_from l.number l.undefined (drop l.number l.fn.pp.read) (drop l.undefined l.fn.pp.read_before_undefined) ≡ mentions.events l.fn.pp)
