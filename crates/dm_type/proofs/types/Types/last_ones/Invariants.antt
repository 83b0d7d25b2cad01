-- The types taken and those that are left are those that were there.
use Rattle.std.proofs.Common.{◌≡◌, ◌≤◌, ◌+◌, ◌++◌, All, length, map}
use Rattle.dm_type.specs.Tables.{type_of, IsId}
use Rattle.dm_type.specs.Composing.{stacked}
use Rattle.dm_type.proofs.types.Types.last_ones.Given as goal

abbrev pub invariant-loop : goal.invariant-loop
invariant-loop l =
    (stacked l.self l.fn.made.items ≡ map (type_of l.self) l.taken.items ++ stacked l.self l.made.items)
    × (length l.taken.items ≡ l.counter) × (l.count ≤ l.counter + length l.made.items)
    × All (IsId l.self) l.made.items × All (IsId l.self) l.taken.items
