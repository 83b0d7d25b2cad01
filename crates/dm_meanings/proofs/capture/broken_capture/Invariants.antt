-- No unit up to here has a place.
use Rattle.std.proofs.Common.{◌≡◌, drop}
use Rattle.dm_meanings.specs.Captures.{capture_in, broken_capture}
use Rattle.dm_meanings.specs.First.{readings_of}
use Rattle.dm_rules.specs.Uses.{in_first_unit}
use Rattle.dm_meanings.proofs.capture.broken_capture.Given as goal

abbrev pub invariant-loop-unit : goal.invariant-loop-unit
invariant-loop-unit l = in_first_unit (capture_in l.fn.definition) (readings_of (drop l.unit-index l.units)) ≡ broken_capture l.fn.definition (readings_of l.units)
