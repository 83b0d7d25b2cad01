-- The elements inside are those of the whole.
use Rattle.std.proofs.Common.{◌≡◌}
use Rattle.dm_type.specs.Tables.{type_of, IsId}
use Rattle.dm_typing.specs.Conversions.{element}
use Rattle.dm_eunary.proofs.parts.element.Given as goal

abbrev pub invariant-loop-inner : goal.invariant-loop-inner
invariant-loop-inner l = IsId l.types l.element × (element (type_of l.types l.element) ≡ element (type_of l.types l.fn.id))

abbrev pub decreases-loop-inner : goal.decreases-loop-inner
decreases-loop-inner l = l.element
