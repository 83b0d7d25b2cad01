-- No unit up to here has a place.
use Rattle.std.proofs.Common.{◌≡◌, drop}
use Rattle.dm_rules.specs.Indexes.{readings_of}
use Rattle.dm_rules.specs.Rules.{gone_in, broken_gone}
use Rattle.dm_rules.specs.Uses.{in_first_unit}
use Rattle.dm_rules.proofs.uses.broken_gone.Given as goal

abbrev pub invariant-loop-unit : goal.invariant-loop-unit
invariant-loop-unit l = in_first_unit (gone_in l.fn.definition) (readings_of (drop l.unit-index l.units)) ≡ broken_gone l.fn.definition (readings_of l.units)
