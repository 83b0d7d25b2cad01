-- None before the external declarations that are left defines `main`.
use Rattle.std.proofs.Common.{length}
use Rattle.dm_type.specs.Tables.{Table}
use Rattle.dm_program.specs.Functions.{IsBefore}
use Rattle.dm_program.proofs.definitions.main_of.Given as goal

abbrev pub invariant-loop-external : goal.invariant-loop-external
invariant-loop-external l = (table : Table) → IsBefore (record { table = table; unit = l.unit }) l.left

abbrev pub decreases-loop-external : goal.decreases-loop-external
decreases-loop-external l = length l.left
