use Rattle.std.proofs.Common.{◌≡◌, ◌++◌, map, length}
use Rattle.dm_expand.specs.Views.{AreNumberedSo, taken_along}
use Rattle.dm_expand.proofs.progress.take_on.Given as goal

abbrev pub invariant-legs : goal.invariant-legs
invariant-legs l = (map (taken_along (l.left ++ l.own)) l.expansions ≡ map (taken_along l.route) l.fn.expansions) × AreNumberedSo l.first l.expansions

abbrev pub decreases-legs : goal.decreases-legs
decreases-legs l = length l.left
