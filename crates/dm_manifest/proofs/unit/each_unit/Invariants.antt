use Rattle.dm_manifest.specs.Units.{new_unit_at}
use Rattle.dm_manifest.proofs.Each.{GoesOn}
use Rattle.dm_manifest.proofs.unit.each_unit.Given as goal

abbrev pub invariant-loop-value : goal.invariant-loop-value
invariant-loop-value l = GoesOn new_unit_at l.values l.value-index l.units
