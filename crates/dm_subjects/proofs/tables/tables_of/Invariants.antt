-- Of the indexes that are not left there are tables, the last one first.
use Rattle.std.proofs.Common.{◌≡◌, ◌≤◌, drop, length, reverse, take}
use Rattle.dm_meaning.specs.Replaced.{Zipped}
use Rattle.dm_rules.specs.Indexes.{readings_of}
use Rattle.dm_rules.specs.Tables.{AreTables}
use Rattle.dm_subjects.proofs.tables.tables_of.Given as goal

abbrev pub invariant-loop-one : goal.invariant-loop-one
invariant-loop-one l = record {
  left : l.left.items ≡ take (length l.left.items) l.initial.left.items;
  within : length l.left.items ≤ length l.initial.left.items;
  known : Zipped AreTables (readings_of (drop (length l.left.items) l.initial.left.items)) (reverse l.made.items);
}

abbrev pub decreases-loop-one : goal.decreases-loop-one
decreases-loop-one l = length l.left.items
