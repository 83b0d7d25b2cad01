-- What stands first in the elements so far stands first in the whole.
use Rattle.std.specs.Prelude.{◌≡◌, Option}
use Rattle.dm_type.specs.CTypes.{CType}
use Rattle.dm_type.specs.Tables.{IsId, type_of}
use Rattle.dm_edecl.specs.Initialising.{First, first_in_array}
use Rattle.dm_einitial.specs.Steps.{within}
use Rattle.dm_einitial.proofs.parts.through_arrays.Given as goal

abbrev pub invariant-loop-inner : goal.invariant-loop-inner
invariant-loop-inner l =
    ((first_of : CType → Option First) → within l.found.depth (first_in_array first_of (type_of l.types l.found.kind)) ≡ within l.fn.first.depth (first_in_array first_of (type_of l.types l.fn.first.kind)))
    × IsId l.types l.found.kind

abbrev pub decreases-loop-inner : goal.decreases-loop-inner
decreases-loop-inner l = l.found.kind
