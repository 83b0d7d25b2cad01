-- What is left of the way is so from the tree that was reached, where the whole is from the whole.
use Rattle.std.proofs.Common.{◌≡◌, length}
use Rattle.dm_type.specs.Tables.{Table}
use Rattle.dm_tree.specs.Views.{view}
use Rattle.dm_effect.specs.Sequencing.{is_first}
use Rattle.dm_effect.proofs.sequencing.first.Given as goal

abbrev pub invariant-loop-number : goal.invariant-loop-number
invariant-loop-number l = (types : Table) → is_first l.left (view types l.tree) ≡ is_first l.fn.at (view types l.fn.body)

abbrev pub decreases-loop-number : goal.decreases-loop-number
decreases-loop-number l = length l.left
