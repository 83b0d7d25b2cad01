-- What is left of the path moves as the whole does, behind the steps so far.
use Rattle.std.proofs.Common.{◌≡◌, ◌++◌, drop, length, map, option_map, take}
use Rattle.dm_type.specs.Tables.{type_of}
use Rattle.dm_meaning.specs.Objects.{moved_in}
use Rattle.dm_layout.specs.LaidOut.{laid_out}
use Rattle.dm_layout.specs.Kinds.{type_of_object, IsKnownType}
use Rattle.dm_value.specs.Parts.{view_of_part}
use Rattle.dm_layout.proofs.moves.moved.Given as goal

abbrev pub invariant-loop-first : goal.invariant-loop-first
invariant-loop-first l =
    IsKnownType l.layout l.at
    × (drop l.stays (map view_of_part l.fn.steps) ≡ map view_of_part l.left)
    × (option_map (λ rest. take l.stays (map view_of_part l.fn.steps) ++ rest)
    (moved_in (laid_out l.layout) (type_of_object l.layout l.at) (type_of l.layout l.fn.target) (map view_of_part l.left) l.fn.count)
    ≡ moved_in (laid_out l.fn.layout) (type_of_object l.fn.layout l.fn.kind) (type_of l.fn.layout l.fn.target) (map view_of_part l.fn.steps) l.fn.count)

abbrev pub decreases-loop-first : goal.decreases-loop-first
decreases-loop-first l = length l.left
