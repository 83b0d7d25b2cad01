-- The answer is that for what stands round the rest of the way.
use Rattle.std.proofs.Common.{◌≡◌, length}
use Rattle.std.specs.List.{list_any}
use Rattle.dm_type.specs.Tables.{Table}
use Rattle.dm_tree.specs.Views.{view}
use Rattle.dm_effect.specs.Doubts.{is_doubted}
use Rattle.dm_effect.specs.Sequencing.{around}
use Rattle.dm_effect.proofs.around.any_around.Given as goal

abbrev pub invariant-loop-number : goal.invariant-loop-number
invariant-loop-number l =
    (types : Table) → list_any (is_doubted types l.doubt) (around l.left (view types l.tree)) ≡ list_any (is_doubted types l.doubt) (around l.fn.at (view types l.fn.full))

abbrev pub decreases-loop-number : goal.decreases-loop-number
decreases-loop-number l = length l.left
