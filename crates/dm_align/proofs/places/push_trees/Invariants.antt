-- What was listed, and what is left.
use Rattle.std.proofs.Common.{◌≡◌, ◌++◌, map, length}
use Rattle.dm_type.specs.Tables.{Table}
use Rattle.dm_tree.specs.Views.{view}
use Rattle.dm_agree.specs.Parts.{nows}
use Rattle.dm_align.proofs.places.push_trees.Given as goal

abbrev pub invariant-loop-tree : goal.invariant-loop-tree
invariant-loop-tree l =
    (types : Table) → map (view types) (nows l.trees.items) ++ map (view types) l.left ≡ map (view types) (nows l.initial.trees.items) ++ map (view types) l.fn.list

abbrev pub decreases-loop-tree : goal.decreases-loop-tree
decreases-loop-tree l = length l.left
