-- No unit up to here passes.
use Rattle.std.proofs.Common.{◌≡◌, drop}
use Rattle.std.specs.List.{list_any}
use Rattle.dm_rules.specs.Indexes.{readings_of}
use Rattle.dm_rules.specs.Rules.{is_used}
use Rattle.dm_rules.proofs.uses.broken_unused.Given as goal

abbrev pub invariant-loop-unit : goal.invariant-loop-unit
invariant-loop-unit l = list_any (is_used l.fn.definition) (readings_of (drop l.unit-index l.units)) ≡ list_any (is_used l.fn.definition) (readings_of l.units)
