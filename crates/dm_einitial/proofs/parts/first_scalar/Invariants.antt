-- What stands first where the way has come to stands first in the whole.
use Rattle.std.specs.Prelude.{◌≡◌, List}
use Rattle.dm_type.specs.declared.shape.Shape.{Shape}
use Rattle.dm_typing.specs.Views.{Begins, type_over, known_over, Grows}
use Rattle.dm_edecl.specs.Initialising.{first_within, first_scalar}
use Rattle.dm_einitial.specs.Steps.{FirstFits, within}
use Rattle.dm_einitial.proofs.parts.first_scalar.Given as goal

abbrev pub invariant-loop-structs : goal.invariant-loop-structs
invariant-loop-structs l =
    Grows l.fn.known l.known × FirstFits l.known.types l.at
    × ((later : List Shape) → Begins l.known.types.shapes later
    → within l.at.depth (first_within l.structs (known_over later l.fn.known).types (type_over later l.at.kind)) ≡ first_scalar (known_over later l.fn.known).types (type_over later l.fn.kind))

abbrev pub decreases-loop-structs : goal.decreases-loop-structs
decreases-loop-structs l = l.structs
