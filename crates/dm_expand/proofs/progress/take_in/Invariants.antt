use Rattle.std.proofs.Common.{◌≡◌, map, drop}
use Rattle.dm_expand.specs.Steps.{taken_by}
use Rattle.dm_expand.specs.Views.{AreNumberedSo}
use Rattle.dm_expand.proofs.progress.take_in.Given as goal

abbrev pub invariant-loop-item : goal.invariant-loop-item
invariant-loop-item l = (map (taken_by (drop l.item-index l.argument)) l.expansions ≡ map (taken_by l.argument) l.fn.expansions) × AreNumberedSo l.first l.expansions
