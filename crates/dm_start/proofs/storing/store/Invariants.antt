-- What the values that are left make of the objects so far is what all make.
use Rattle.std.proofs.Common.{◌≡◌, map, length}
use Rattle.dm_type.specs.Tables.{Table}
use Rattle.dm_memory.specs.Blocks.{view_of_blocks, AreKnown}
use Rattle.dm_start.specs.Storing.{view_of_kept, with_values}
use Rattle.dm_start.proofs.storing.store.Given as goal

abbrev pub invariant-loop-kept : goal.invariant-loop-kept
invariant-loop-kept l =
    ((table : Table) → with_values (map view_of_kept l.left) (view_of_blocks table l.blocks) ≡ with_values (map view_of_kept l.fn.values) (view_of_blocks table l.fn.blocks))
    × ((table : Table) → AreKnown table l.fn.blocks → AreKnown table l.blocks)

abbrev pub decreases-loop-kept : goal.decreases-loop-kept
decreases-loop-kept l = length l.left
