-- No unit up to here has an expansion.
use Rattle.std.proofs.Common.{◌≡◌, drop}
use Rattle.dm_meanings.specs.First.{readings_of}
use Rattle.dm_meanings.specs.Types as types
use Rattle.dm_meanings.proofs.types.first_run.Given as goal

abbrev pub invariant-loop-one : goal.invariant-loop-one
invariant-loop-one l = types.first_run l.fn.definition (readings_of (drop l.one-index l.units)) ≡ types.first_run l.fn.definition (readings_of l.units)
