-- No unit up to here has a place.
use Rattle.std.proofs.Common.{◌≡◌, drop}
use Rattle.dm_rules.specs.Indexes.{readings_of}
use Rattle.dm_rules.specs.Rules.{name_in, broken_name}
use Rattle.dm_rules.specs.Uses.{in_first_unit}
use Rattle.dm_rules.proofs.uses.broken_name.Given as goal

abbrev pub invariant-loop-unit : goal.invariant-loop-unit
invariant-loop-unit l = in_first_unit (name_in l.fn.definition) (readings_of (drop l.unit-index l.units)) ≡ broken_name l.fn.definition (readings_of l.units)
