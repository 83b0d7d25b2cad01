-- Types are made of earlier ones, and a struct has structs within it that lie less deep.
use Rattle.std.proofs.Common.{◌≡◌, ◌+◌, ◌*◌, ◌-◌, ◌≤◌, length, map, take}
use Rattle.dm_layout.specs.LaidOut.{laid_out}
use Rattle.dm_meaning.specs.Objects.{Field, filled, filled_struct}
use Rattle.dm_meaning.specs.Programs.{fields_in}
use Rattle.dm_type.specs.Tables.{members_of}
use Rattle.dm_value.specs.Views.{view_of_value}
use Rattle.dm_first_value.specs.Firsts.{scalar_of}
use Rattle.dm_first_value.proofs.filled.+first.Given as goal

abbrev pub decreases-filled : goal.decreases-filled
decreases-filled l = (l.depth * length l.layout.now.shapes + l.kind) * 2 + 1

abbrev pub decreases-filled_struct : goal.decreases-filled_struct
decreases-filled_struct l = (l.depth * length l.layout.now.shapes + l.kind) * 2

-- so far there are the values of the members so far
abbrev pub invariant-filled_struct-loop-member : goal.invariant-filled_struct-loop-member
invariant-filled_struct-loop-member l =
    (l.number ≤ length (fields_in l.layout (members_of l.layout l.structure)))
    × (map view_of_value l.values.items
    ≡ map (λ (field : Field). filled (scalar_of l.scalars) (filled_struct (laid_out l.layout) (scalar_of l.scalars) (l.depth - 1)) field.kind) (take l.number (fields_in l.layout (members_of l.layout l.structure))))

abbrev pub decreases-filled_struct-loop-member : goal.decreases-filled_struct-loop-member
decreases-filled_struct-loop-member l = length (fields_in l.layout (members_of l.layout l.structure)) - l.number
