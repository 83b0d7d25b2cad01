-- With those that are left they are as many as among all.
use Rattle.std.proofs.Common.{◌≡◌, ◌≤◌, ◌+◌, map, length}
use Rattle.dm_type.specs.Tables.{Table}
use Rattle.dm_tree.specs.Views.{view, view_of_unit}
use Rattle.dm_around.specs.Noises.{noisy_among}
use Rattle.dm_around.proofs.noise.noisy_among.Given as goal

abbrev pub invariant-loop-tree : goal.invariant-loop-tree
invariant-loop-tree l =
    (l.count + length l.left ≤ length l.trees)
    × ((types : Table) → l.count + noisy_among (view_of_unit types l.quiet) (map (view types) l.left) ≡ noisy_among (view_of_unit types l.quiet) (map (view types) l.trees))

abbrev pub decreases-loop-tree : goal.decreases-loop-tree
decreases-loop-tree l = length l.left
