-- The ways beside the rest, behind the way that leads there, and those that were found, are those beside the whole.
use Rattle.std.proofs.Common.{◌≡◌, ℕ, List, ◌++◌, length}
use Rattle.std.specs.Prelude.{reverse}
use Rattle.dm_type.specs.Tables.{Table}
use Rattle.dm_tree.specs.Views.{view}
use Rattle.dm_effect.specs.Sequencing.{beside}
use Rattle.dm_effect.proofs.BesideLemmas.{onto}
use Rattle.dm_effect.proofs.unsequenced.beside.Given as goal

abbrev pub invariant-loop-number : goal.invariant-loop-number
invariant-loop-number l =
    (front : List ℕ)
    × (front ++ l.left ≡ l.fn.at)
    × ((types : Table) → onto front (beside l.left (view types l.tree)) ++ reverse l.found.items ≡ beside l.fn.at (view types l.fn.full))

abbrev pub decreases-loop-number : goal.decreases-loop-number
decreases-loop-number l = length l.left
