use Rattle.std.proofs.Common.{◌≡◌, drop}
use Rattle.dm_expand.specs.Trails as trails
use Rattle.dm_expand.proofs.trails.come_otherwise.Given as goal

abbrev pub invariant-loop-item : goal.invariant-loop-item
invariant-loop-item l = trails.come_otherwise l.name (drop l.item-index l.items) ≡ trails.come_otherwise l.name l.items
