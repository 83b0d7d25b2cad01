use Rattle.std.proofs.Common.{◌≡◌, min, ◌<◌, Some, ℕ}
use Rattle.dm_type.specs.Tables as tables
use Rattle.dm_type.specs.Layouts as layouts
use Rattle.dm_type.proofs.types.Types.layout.Given as goal

abbrev pub invariant-loop-inner : goal.invariant-loop-inner
invariant-loop-inner l =
    ((exact : ℕ) × (l.count ≡ min exact 18446744073709551615) × (0 < exact) × (layouts.layout_of l.self (tables.type_of l.self l.fn.id) ≡ layouts.times (Some exact) (layouts.layout_of l.self (tables.type_of l.self l.element)))) × tables.IsId l.self l.element

abbrev pub decreases-loop-inner : goal.decreases-loop-inner
decreases-loop-inner l = l.element
