-- The functions so far are those of the external declarations behind the ones that are left.
use Rattle.std.proofs.Common.{length}
use Rattle.dm_type.specs.Tables.{Table}
use Rattle.dm_tree.specs.TypeNumbers.{IsTypedUnit}
use Rattle.dm_program.specs.Functions.{AreBehind}
use Rattle.dm_program.proofs.definitions.functions.Given as goal

abbrev pub invariant-loop-external : goal.invariant-loop-external
invariant-loop-external l = (table : Table) → IsTypedUnit table l.unit → AreBehind (record { table = table; unit = l.unit }) l.left l.all.items

abbrev pub decreases-loop-external : goal.decreases-loop-external
decreases-loop-external l = length l.left
