-- No unit up to here has a place.
use Rattle.std.proofs.Common.{◌≡◌, drop}
use Rattle.dm_meanings.specs.First.{readings_of}
use Rattle.dm_rules.specs.Uses.{in_first_unit}
use Rattle.dm_judge.specs.Rules as rules
use Rattle.dm_judge.proofs.runs.broken_on_runs.Given as goal

abbrev pub invariant-loop-number : goal.invariant-loop-number
invariant-loop-number l =
    in_first_unit (rules.failing_in l.fn.rule l.fn.definition) (readings_of (drop l.number l.fn.units.meanings.items))
    ≡ rules.broken_on_runs l.fn.rule l.fn.definition (readings_of l.fn.units.meanings.items)
