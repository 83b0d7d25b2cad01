-- The arrays that are made, with the lengths that are left, are what is wanted.
use Rattle.std.proofs.Common.{◌≡◌, All, length}
use Rattle.dm_type.specs.Tables.{type_of, IsLength, IsId, Extends, AreDistinct}
use Rattle.dm_type.specs.Wraps.{arrayed}
use Rattle.dm_type.proofs.types.Types.arrays.Given as goal

abbrev pub invariant-loop-length : goal.invariant-loop-length
invariant-loop-length l =
    (arrayed l.lengths.items (type_of l.self l.id) ≡ arrayed l.fn.lengths.items (type_of l.fn.self l.fn.element))
    × All IsLength l.lengths.items × IsId l.self l.id × Extends l.fn.self l.self × AreDistinct l.self

abbrev pub decreases-loop-length : goal.decreases-loop-length
decreases-loop-length l = length l.lengths.items
