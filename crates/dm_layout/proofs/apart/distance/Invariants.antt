-- What is left of both paths lies as far apart as the places do.
use Rattle.std.proofs.Common.{◌≡◌, length, map}
use Rattle.dm_type.specs.Tables.{type_of}
use Rattle.dm_meaning.specs.Objects.{distance}
use Rattle.dm_layout.specs.Kinds.{type_of_object, IsKnownType}
use Rattle.dm_layout.specs.LaidOut.{laid_out}
use Rattle.dm_value.specs.Parts.{view_of_part}
use Rattle.dm_layout.proofs.apart.distance.Given as goal

abbrev pub invariant-loop-first : goal.invariant-loop-first
invariant-loop-first l =
    IsKnownType l.layout l.at
    × (distance (laid_out l.layout) (type_of_object l.layout l.at) (type_of l.layout l.fn.target) (map view_of_part l.left) (map view_of_part l.right)
    ≡ distance (laid_out l.fn.layout) (type_of_object l.fn.layout l.fn.kind) (type_of l.fn.layout l.fn.target) (map view_of_part l.fn.a) (map view_of_part l.fn.b))

abbrev pub decreases-loop-first : goal.decreases-loop-first
decreases-loop-first l = length l.left
