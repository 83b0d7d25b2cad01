-- What is left of the path leads on from where it has come to.
use Rattle.std.proofs.Common.{◌≡◌, length, map}
use Rattle.dm_type.specs.Tables.{IsId, type_of}
use Rattle.dm_meaning.specs.Objects.{part_at}
use Rattle.dm_layout.specs.LaidOut.{laid_out}
use Rattle.dm_value.specs.Parts.{view_of_part}
use Rattle.dm_layout.proofs.layout.Layout.reached.Given as goal

abbrev pub invariant-loop-first : goal.invariant-loop-first
invariant-loop-first l =
    IsId l.self l.at
    × (part_at (laid_out l.self) l.within (type_of l.self l.at) (map view_of_part l.left)
    ≡ part_at (laid_out l.fn.self) l.fn.fixed (type_of l.fn.self l.fn.id) (map view_of_part l.fn.steps))

abbrev pub decreases-loop-first : goal.decreases-loop-first
decreases-loop-first l = length l.left
