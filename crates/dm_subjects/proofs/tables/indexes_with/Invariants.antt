-- Of the readings that are left there are tables, and of the others indexes, the last one first.
use Rattle.std.proofs.Common.{◌≡◌, ◌≤◌, drop, length, reverse, take}
use Rattle.dm_meaning.specs.Replaced.{Zipped}
use Rattle.dm_rules.specs.Indexes.{readings_of}
use Rattle.dm_rules.specs.Tables.{AreTables}
use Rattle.dm_subjects.proofs.tables.indexes_with.Given as goal

abbrev pub invariant-loop-one : goal.invariant-loop-one
invariant-loop-one l = record {
  within : length l.left.items ≤ length l.readings;
  known : Zipped AreTables (take (length l.left.items) l.readings) l.left.items;
  made : reverse (readings_of l.made.items) ≡ drop (length l.left.items) l.readings;
}

abbrev pub decreases-loop-one : goal.decreases-loop-one
decreases-loop-one l = length l.left.items
