use Rattle.std.proofs.Common.{◌≡◌, take}
use Rattle.dm_expand.specs.Shares.{signs_of}
use Rattle.dm_expand.proofs.stretch.signs_of.Given as goal

abbrev pub invariant-loop-item : goal.invariant-loop-item
invariant-loop-item l = l.signs.items ≡ signs_of (take l.item-index l.items)
