-- The first item that passes is among those that are left.
use Rattle.std.proofs.Common.{◌≡◌, length, map}
use Rattle.dm_type.specs.Tables.{Table}
use Rattle.dm_tree.specs.Views.{view}
use Rattle.dm_meaning.specs.Statements.{from_first, has_default}
use Rattle.dm_frame.specs.Tasks.{TreesFit}
use Rattle.dm_frame.proofs.switching.from_default.Given as goal

abbrev pub invariant-loop-item : goal.invariant-loop-item
invariant-loop-item l =
    ((table : Table) → TreesFit table l.fn.items → TreesFit table l.left)
    × ((table : Table) → from_first has_default (map (view table) l.left) ≡ from_first has_default (map (view table) l.fn.items))

abbrev pub decreases-loop-item : goal.decreases-loop-item
decreases-loop-item l = length l.left
