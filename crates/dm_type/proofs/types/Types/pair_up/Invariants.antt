-- The parameters from a number on are paired.
use Rattle.std.proofs.Common.{◌≡◌, ◌≤◌, ◌+◌, ◌++◌, All, drop, map}
use Rattle.dm_type.specs.CTypes.{all_of}
use Rattle.dm_type.specs.Tables.{type_of}
use Rattle.dm_type.specs.Writing.{works}
use Rattle.dm_type.specs.Composing.{IsPair, wanted, composites, work_of}
use Rattle.dm_type.proofs.types.Types.pair_up.Given as goal

abbrev pub invariant-loop-at : goal.invariant-loop-at
invariant-loop-at l =
    (wanted l.self l.pairs.items ≡ composites (map (type_of l.self) (drop l.at l.parameters)) (map (type_of l.self) (drop l.at l.others)) ++ wanted l.self l.fn.pairs.items)
    × All (IsPair l.self) l.pairs.items
    × (work_of l.self l.pairs.items ≤ work_of l.self l.fn.pairs.items + works (all_of (map (type_of l.self) (drop l.at l.parameters))))
