use Rattle.std.proofs.Common.{◌≡◌, take}
use Rattle.std.specs.List.{filter}
use Rattle.std.specs.FinSet as set
use Rattle.dm_expand.proofs.hidden.Hidden.meet.Given as goal

abbrev pub invariant-loop-number : goal.invariant-loop-number
invariant-loop-number l = l.kept.items ≡ filter (set.contains l.other) (take l.number-index l.mine)
