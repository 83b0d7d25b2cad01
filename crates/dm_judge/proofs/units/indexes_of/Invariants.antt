-- The indexes of the readings up to here.
use Rattle.std.proofs.Common.{◌≡◌, take}
use Rattle.dm_rules.specs.Indexes.{readings_of}
use Rattle.dm_judge.proofs.units.indexes_of.Given as goal

abbrev pub invariant-loop-reading : goal.invariant-loop-reading
invariant-loop-reading l = readings_of l.made.items ≡ take l.reading-index l.readings
