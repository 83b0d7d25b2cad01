-- The bytes so far, and those of what is left of the path, are those of the whole.
use Rattle.std.proofs.Common.{◌≡◌, ◌+◌, length, map}
use Rattle.dm_meaning.specs.Objects.{byte_of}
use Rattle.dm_layout.specs.Kinds.{type_of_object, IsKnownType}
use Rattle.dm_layout.specs.LaidOut.{laid_out}
use Rattle.dm_value.specs.Parts.{view_of_part}
use Rattle.dm_layout.proofs.bytes.byte_of.Given as goal

abbrev pub invariant-loop-first : goal.invariant-loop-first
invariant-loop-first l =
    IsKnownType l.layout l.at
    × (l.byte + byte_of (laid_out l.layout) (type_of_object l.layout l.at) (map view_of_part l.left)
    ≡ byte_of (laid_out l.fn.layout) (type_of_object l.fn.layout l.fn.kind) (map view_of_part l.fn.steps))

abbrev pub decreases-loop-first : goal.decreases-loop-first
decreases-loop-first l = length l.left
