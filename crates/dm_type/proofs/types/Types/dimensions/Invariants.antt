use Rattle.std.proofs.Common.{◌≡◌, All}
use Rattle.dm_type.specs.Tables as tables
use Rattle.dm_type.specs.Wraps.{arrayed}
use Rattle.dm_type.proofs.types.Types.dimensions.Given as goal

abbrev pub invariant-loop-inner : goal.invariant-loop-inner
invariant-loop-inner l =
    (arrayed l.lengths.items (tables.type_of l.self l.element) ≡ tables.type_of l.self l.fn.id) × All tables.IsLength l.lengths.items × tables.IsId l.self l.element

abbrev pub decreases-loop-inner : goal.decreases-loop-inner
decreases-loop-inner l = l.element
