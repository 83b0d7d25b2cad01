use Rattle.std.proofs.Common.{◌≡◌, map, length}
use Rattle.dm_expand.specs.Views.{AreNumberedSo, taken_along}
use Rattle.dm_expand.proofs.progress.take_along.Given as goal

abbrev pub invariant-walk : goal.invariant-walk
invariant-walk l = (map (taken_along l.left) l.expansions ≡ map (taken_along l.trail) l.fn.expansions) × AreNumberedSo l.first l.expansions

abbrev pub decreases-walk : goal.decreases-walk
decreases-walk l = length l.left
