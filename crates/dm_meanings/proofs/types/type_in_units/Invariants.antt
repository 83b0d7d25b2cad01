-- No unit up to here has a place.
use Rattle.std.proofs.Common.{◌≡◌, drop}
use Rattle.dm_meanings.specs.First.{readings_of}
use Rattle.dm_meanings.specs.Types.{Met, type_in}
use Rattle.dm_meanings.specs.Wanted.{IsWanted}
use Rattle.dm_rules.specs.Uses.{in_first_unit}
use Rattle.dm_meanings.proofs.types.type_in_units.Given as goal

abbrev pub invariant-loop-unit : goal.invariant-loop-unit
invariant-loop-unit l =
    (first : Met) → IsWanted l.fn.definition first l.fn.wanted
    → in_first_unit (type_in l.fn.definition first) (readings_of (drop l.unit-index l.units)) ≡ in_first_unit (type_in l.fn.definition first) (readings_of l.units)
