-- The names of the readings up to here.
use Rattle.std.proofs.Common.{take}
use Rattle.dm_meaning.specs.Replaced.{Zipped}
use Rattle.dm_meanings.specs.Named.{AreNamesOf}
use Rattle.dm_judge.proofs.units.names_of.Given as goal

abbrev pub invariant-loop-reading : goal.invariant-loop-reading
invariant-loop-reading l = Zipped AreNamesOf (take l.reading-index l.readings) l.made.items
