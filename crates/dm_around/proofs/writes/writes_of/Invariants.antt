-- The places up to here are noted.
use Rattle.std.proofs.Common.{take}
use Rattle.dm_type.specs.Tables.{Table}
use Rattle.dm_around.specs.Writes.{AreWrites}
use Rattle.dm_around.proofs.ParentLemmas.{all_of}
use Rattle.dm_around.proofs.writes.writes_of.Given as goal

abbrev pub invariant-loop-number : goal.invariant-loop-number
invariant-loop-number l = (types : Table) → AreWrites (take l.number (all_of types l.fn.sites)) l.rows.items
