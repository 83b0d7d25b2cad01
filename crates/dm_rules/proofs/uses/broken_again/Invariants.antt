-- No unit up to here has a place.
use Rattle.std.proofs.Common.{◌≡◌, drop}
use Rattle.dm_rules.specs.Indexes.{readings_of}
use Rattle.dm_rules.specs.Rules.{again_in, broken_again}
use Rattle.dm_rules.specs.Uses.{in_first_unit}
use Rattle.dm_rules.proofs.uses.broken_again.Given as goal

abbrev pub invariant-loop-unit : goal.invariant-loop-unit
invariant-loop-unit l = in_first_unit (again_in l.fn.definition) (readings_of (drop l.unit-index l.units)) ≡ broken_again l.fn.definition (readings_of l.units)
